use Rattle.std.proofs.Common.{arith}
use Rattle.pl_queue_tests.proofs.RelayLemmas.{event-fits, event-sent}
use Rattle.pl_post_tests.proofs.feeding.feed.Goals as goal

pub send_when_room-requires-clause-fits : goal.send_when_room-requires-clause-fits
send_when_room-requires-clause-fits g c =
    event-fits g.W.Named.world c.args.lane c.loop-number.number c.args.count c.event.result c.requires.world.0 c.requires.world.1 (omega (arith, c.loop-number-test.true)) c.event.ensures

pub loop-number-preserved : goal.loop-number-preserved
loop-number-preserved g c =
    let inv = c.loop-number.invariant in
    let told = c.in_default.ensures in
    record {
      seat = told.seat;
      next = event-sent c.args.lane c.loop-number.number (g.M.Mailbox.ends.sends_of c.loop-number.seat.sender) (g.M.Mailbox.ends.sends_of c.send_when_room.new.seat.sender) c.event.result c.event.ensures told.sent.0 inv.next;
      kept = omega (arith, told.sent.1, inv.kept);
    }
