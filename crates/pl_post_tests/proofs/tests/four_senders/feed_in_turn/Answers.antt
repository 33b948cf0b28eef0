use Rattle.std.proofs.Common.{◌+◌, set, get_or, refl, ap, sym, subst, ◌∙◌, arith}
use Rattle.pl_event.specs.declared.envelopes.Lane.{Lane}
use Rattle.pl_event.specs.Hops.{data_lane}
use Rattle.pl_queue_tests.specs.Relays.{event}
use Rattle.pl_queue_tests.proofs.RelayLemmas.{event-fits}
use Rattle.pl_post_tests.specs.Turns.{IsInTurn}
use Rattle.pl_post_tests.proofs.TurnLemmas.{sent-turn}
use Rattle.pl_post_tests.proofs.tests.four_senders.feed_in_turn.Goals as goal

pub send_when_room-requires-clause-fits : goal.send_when_room-requires-clause-fits
send_when_room-requires-clause-fits g c =
    let channel = c.loop.feeder.first + c.loop.turn in
    let number = get_or c.loop.feeder.sent c.from.result 0 in
    event-fits g.W.Named.world (data_lane channel 0) number 999 c.event-next.result refl
    (c.requires.world.each channel (omega (arith, c.loop.invariant.in_turn.low, c.loop.invariant.turn))) c.if-number-ge-EVENTS.false (c.event-next.ensures ∙ ap (λ (l : Lane). event l number) c.data_lane.ensures)

pub loop-preserved : goal.loop-preserved
loop-preserved g c =
    let feeder = c.loop.feeder in
    let number = get_or feeder.sent c.from.result 0 in
    record {
      turn = omega arith;
      in_turn = subst (λ i. IsInTurn g.M.Mailbox.ends c.args.post.now c.send_when_room.new.seat feeder.first (set feeder.sent i (number + 1))) (sym c.from-in-loop.ensures)
          (sent-turn g.M.Mailbox.ends c.args.post.now feeder.seat c.send_when_room.new.seat feeder.first c.loop.turn number feeder.sent c.event-next.result
          c.loop.invariant.in_turn c.in_default.ensures.seat c.loop.invariant.turn (ap (λ i. get_or feeder.sent i 0) c.from.ensures) c.if-number-ge-EVENTS.false
          (c.event-next.ensures ∙ ap (λ (l : Lane). event l number) c.data_lane.ensures) c.in_default.ensures.sent.0);
    }
