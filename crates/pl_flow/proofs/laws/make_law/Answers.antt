use Rattle.std.proofs.Common.{refl}
use Rattle.pl_flow.specs.Makes.{made_all}
use Rattle.pl_flow.proofs.MakeLemmas.{all-put, makes-then}
use Rattle.pl_flow.proofs.PortFlows.{appends-makes}
use Rattle.pl_flow.proofs.laws.make_law.Goals as goal

pub returns-clause-put : goal.returns-clause-put
returns-clause-put c = λ world writes from xs before after are puts. all-put world writes xs from before after are puts

pub returns-clause-append : goal.returns-clause-append
returns-clause-append c = λ world writes from xs before after are none appends. appends-makes world writes xs from (made_all from xs) before after are none appends (λ l f. refl)

pub returns-clause-join : goal.returns-clause-join
returns-clause-join c = λ world writes from mid to before between after first second. makes-then world writes from mid to before between after first second
