use Rattle.std.proofs.Common.{arith}
use Rattle.pl_nodes_tests.proofs.SampleLemmas.{one-place}
use Rattle.pl_nodes_tests.proofs.tests.context_tests.backlog_without_memory_gives_tokens_back.Goals as goal

pub loop-number-init : goal.loop-number-init
loop-number-init g c = (one-place c.in_ok-backlog.backlog.stopped c.in_ok-backlog.ensures.places, omega arith)
