use Rattle.pl_net.proofs.Numbers.{made-all}
use Rattle.pl_net.proofs.account_laws.account_law.Goals as goal

pub returns-clause-numbers : goal.returns-clause-numbers
returns-clause-numbers c = λ world v x stations backlogs work runs none l w cut stopped. made-all world v x stations backlogs work runs none l w cut stopped
