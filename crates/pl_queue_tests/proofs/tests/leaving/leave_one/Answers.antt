use Rattle.std.proofs.Common.{◌≡◌, false, Some, refl, sym, subst, ◌∙◌, arith}
use Rattle.pl_event.specs.declared.envelopes.Envelope.{Envelope}
use Rattle.pl_queue.specs.Views.{sent_of}
use Rattle.pl_queue_tests.proofs.RelayLemmas.{event-fits, event-sent, one-sender}
use Rattle.pl_queue_tests.proofs.tests.leaving.leave_one.Goals as goal

pub offer_one-requires-clause-fits : goal.offer_one-requires-clause-fits
offer_one-requires-clause-fits g c = event-fits g.W.Named.world c.args.lane 0 2 c.event.result c.requires.world.0 c.requires.world.1 (omega arith) c.event.ensures

pub offer_one-requires-2-clause-next : goal.offer_one-requires-2-clause-next
offer_one-requires-2-clause-next g c =
    subst (λ (x : Envelope). sent_of x.lane (g.M.Mailbox.ends.sends_of c.offer_one.new.sender).send_counts ≡ Some (x.number, false)) (sym c.event-2.ensures)
    (event-sent c.args.lane 0 (g.M.Mailbox.ends.sends_of c.in-Ok.opened.1) (g.M.Mailbox.ends.sends_of c.offer_one.new.sender) c.event.result c.event.ensures (c.if-not-offer_one.ensures.sent refl) c.in-Ok.ensures.sender.1.0)

pub offer_one-requires-2-clause-fits : goal.offer_one-requires-2-clause-fits
offer_one-requires-2-clause-fits g c = event-fits g.W.Named.world c.args.lane 1 2 c.event-2.result c.requires.world.0 c.requires.world.1 (omega arith) c.event-2.ensures

pub finish-requires-clause-all : goal.finish-requires-clause-all
finish-requires-clause-all g c =
    one-sender g.M.Mailbox.ends.sends_of c.new-senders.result.items c.push.new.self.items c.offer_one-2.new.sender (g.M.Mailbox.ends.takes_of c.take_one.new.taker) c.args.lane c.new-senders.ensures.items c.in-Ok-push.ensures.items
    (c.offer_one-2.ensures.still.1 ∙ c.offer_one.ensures.still.1 ∙ c.in-Ok.ensures.sender.1.1) (c.take_one.ensures.1 ∙ c.in-Ok.ensures.taker.1)
