use Rattle.pl_nodes_tests.proofs.WaitingLemmas.{waits-new}
use Rattle.pl_nodes_tests.proofs.tests.waiting_tests.for_three.Goals as goal

pub returns-clause-waits : goal.returns-clause-waits
returns-clause-waits c = waits-new c.as_slice.result.now c.new.result c.as_slice.ensures c.new.ensures.empty c.new.ensures.places
