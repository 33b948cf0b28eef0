use Rattle.std.proofs.Common.{ap, ◌∙◌, arith}
use Rattle.pl_event.specs.declared.envelopes.Lane.{Lane}
use Rattle.pl_context.specs.declared.ports.Port.{Port}
use Rattle.pl_nodes_tests.specs.declared.tests.context_tests.Relay.{Relay}
use Rattle.pl_nodes_tests.proofs.SampleLemmas.{number-own, small-number, fresh-places, relay-few}
use Rattle.pl_nodes_tests.proofs.tests.context_tests.give.Goals as goal

pub take-requires-clause-places : goal.take-requires-clause-places
take-requires-clause-places g c = fresh-places c.args.context.now c.args.outputs.now.stopped c.requires

pub take-requires-clause-few : goal.take-requires-clause-few
take-requires-clause-few g c = λ is_data is_open.
    relay-few (λ (s : Relay). s.direction) (λ (s : Relay). s.has_quit) c.args.context.now c.args.item (omega (arith, ap (λ (p : Port). p.made) c.up-up.ensures)) (omega (arith, ap (λ (p : Port). p.made) c.down-down.ensures))

pub take-requires-clause-number : goal.take-requires-clause-number
take-requires-clause-number g c =
    c.taken-number.ensures ∙ number-own c.args.context.now c.of_kind-lane.result (ap (λ (l : Lane). l.channel) c.of_kind-lane.ensures ∙ ap (λ (l : Lane). l.channel) c.lane.ensures) (ap (λ (l : Lane). l.hop) c.of_kind-lane.ensures ∙ ap (λ (l : Lane). l.hop) c.lane.ensures)

pub take-requires-clause-limit : goal.take-requires-clause-limit
take-requires-clause-limit g c = small-number c.of_kind-lane.result.kind c.taken-number.result (omega arith)
