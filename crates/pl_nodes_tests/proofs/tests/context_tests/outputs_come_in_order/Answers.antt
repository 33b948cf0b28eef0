use Rattle.std.proofs.Common.{◌∙◌}
use Rattle.pl_nodes_tests.proofs.SampleLemmas.{one-place}
use Rattle.pl_nodes_tests.proofs.tests.context_tests.outputs_come_in_order.Goals as goal

pub assert_puts-requires : goal.assert_puts-requires
assert_puts-requires g c =
    one-place c.assert_reserves.new.outputs.stopped (c.assert_reserves.ensures ∙ c.in_ok-outputs.ensures.places)
