use Rattle.std.proofs.Common.{◌<◌}
use Rattle.pl_replay_tests.proofs.tests.failure_tests.assert_ends.Given as goal

abbrev pub invariant-loop : goal.invariant-loop
invariant-loop g l = l.number < 2147483647
