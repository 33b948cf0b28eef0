use Rattle.pl_nodes_tests.specs.Samples.{WaitsForThree}
use Rattle.pl_nodes_tests.proofs.tests.waiting_tests.assert_drained.Given as goal

abbrev pub invariant-loop-target : goal.invariant-loop-target
invariant-loop-target g l = WaitsForThree l.waiting
