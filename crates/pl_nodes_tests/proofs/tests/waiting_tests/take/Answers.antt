use Rattle.pl_nodes_tests.proofs.WaitingLemmas.{waits-taken}
use Rattle.pl_nodes_tests.proofs.tests.waiting_tests.take.Goals as goal

pub returns-clause-waits : goal.returns-clause-waits
returns-clause-waits c = waits-taken _ _ c.args.target _ c.requires.waits (c.take.ensures.first c.requires.waits.entries c.requires.waits.holds)
