use Rattle.pl_nodes_tests.proofs.SampleLemmas.{one-place}
use Rattle.pl_nodes_tests.proofs.tests.context_tests.item_without_memory_gives_way.Goals as goal

pub loop-number-init : goal.loop-number-init
loop-number-init g c = one-place c.in_ok-outputs.outputs.stopped c.in_ok-outputs.ensures.places
