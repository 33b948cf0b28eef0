use Rattle.std.proofs.Common.{◌≡◌, ℕ, refl, ap, subst, sym, ◌∙◌, arith}
use Rattle.pl_event.specs.declared.envelopes.Item.TheVariants as item
use Rattle.pl_event.specs.declared.envelopes.Lane.{Lane}
use Rattle.pl_event.specs.Hops.{data_lane}
use Rattle.pl_event.specs.Worlds.{FitsWorld}
use Rattle.pl_queue_tests.specs.Relays.{event}
use Rattle.pl_queue_tests.proofs.RelayLemmas.{event-fits, last-fits}
use Rattle.pl_post_tests.proofs.tests.loads.envelope.Goals as goal

pub returns-then-number-lt-EVENTS-clause-fits : goal.returns-then-number-lt-EVENTS-clause-fits
returns-then-number-lt-EVENTS-clause-fits c world carries =
    event-fits world (data_lane c.args.channel 0) c.args.number 999 c.event.result refl carries c.if-number-lt-EVENTS.true (c.event.ensures ∙ ap (λ (l : Lane). event l c.args.number) c.data_lane.ensures)

pub returns-clause-fits : goal.returns-clause-fits
returns-clause-fits c world carries =
    let last : 999 ≡ c.args.number = omega (arith, c.requires.few, c.if-number-lt-EVENTS.false) in
    subst (λ (n : ℕ). FitsWorld world (record { lane = c.data_lane-2.result; number = n; item = item.End })) last
    (subst (λ (l : Lane). FitsWorld world (record { lane = l; number = 999; item = item.End })) (sym c.data_lane-2.ensures) (last-fits world (data_lane c.args.channel 0) 999 refl carries))
