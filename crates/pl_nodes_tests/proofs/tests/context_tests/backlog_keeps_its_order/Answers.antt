use Rattle.pl_nodes_tests.proofs.SampleLemmas.{one-place}
use Rattle.pl_nodes_tests.proofs.tests.context_tests.backlog_keeps_its_order.Goals as goal

pub add_three-requires : goal.add_three-requires
add_three-requires g c = one-place c.in_ok-backlog.backlog.stopped c.in_ok-backlog.ensures.places
