use Rattle.std.proofs.Common.{refl, ◌∙◌, arith}
use Rattle.pl_queue_tests.proofs.RelayLemmas.{event-fits, event-sent, last-fits}
use Rattle.pl_queue_tests.proofs.tests.relays.send_all.Goals as goal

pub offer_one-requires-clause-fits : goal.offer_one-requires-clause-fits
offer_one-requires-clause-fits g c =
    event-fits g.W.Named.world c.args.lane c.loop-number.number c.args.last c.event.result c.requires.world.0 c.requires.world.1 (omega arith) c.event.ensures

pub loop-number-preserved : goal.loop-number-preserved
loop-number-preserved g c =
    let inv = c.loop-number.invariant in
    let told = c.if-not-offer_one.ensures in
    record {
      sender = told.still.0;
      sent = event-sent c.args.lane c.loop-number.number (g.M.Mailbox.ends.sends_of c.loop-number.sender) (g.M.Mailbox.ends.sends_of c.offer_one.new.sender) c.event.result c.event.ensures (told.sent refl) inv.sent;
      lanes = told.still.1 ∙ inv.lanes;
    }

pub offer_one-sent-requires-clause-fits : goal.offer_one-sent-requires-clause-fits
offer_one-sent-requires-clause-fits g c = last-fits g.W.Named.world c.args.lane c.args.last c.requires.world.0 c.requires.world.1
