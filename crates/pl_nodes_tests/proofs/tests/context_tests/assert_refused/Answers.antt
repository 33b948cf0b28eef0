use Rattle.pl_nodes_tests.proofs.SampleLemmas.{fresh-places}
use Rattle.pl_nodes_tests.proofs.tests.context_tests.assert_refused.Goals as goal

pub fail-requires : goal.fail-requires
fail-requires g c = record { places = fresh-places c.args.context.now c.in_ok-outputs.outputs.stopped c.in_ok-outputs.ensures.places }
