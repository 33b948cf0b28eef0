use Rattle.std.proofs.Common.{ap, ◌∙◌, arith}
use Rattle.pl_event.specs.declared.envelopes.Lane.{Lane}
use Rattle.pl_nodes_tests.proofs.SampleLemmas.{number-tail, small-number}
use Rattle.pl_nodes_tests.proofs.tests.context_tests.record.Goals as goal

pub take-requires-clause-number : goal.take-requires-clause-number
take-requires-clause-number g c =
    c.taken-number.ensures ∙ number-tail c.args.tail.now c.of_kind-lane.result (ap (λ (l : Lane). l.channel) c.of_kind-lane.ensures ∙ ap (λ (l : Lane). l.channel) c.lane.ensures) (ap (λ (l : Lane). l.hop) c.of_kind-lane.ensures ∙ ap (λ (l : Lane). l.hop) c.lane.ensures)

pub take-requires-clause-limit : goal.take-requires-clause-limit
take-requires-clause-limit g c = small-number c.of_kind-lane.result.kind c.taken-number.result (omega arith)
