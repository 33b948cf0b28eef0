use Rattle.pl_flow.proofs.ItemLemmas.{stand_in-good, failure-good, end-good}
use Rattle.pl_flow.proofs.laws.item_law.Goals as goal

pub returns-clause-stand_in : goal.returns-clause-stand_in
returns-clause-stand_in c = λ world x kind good. stand_in-good world x kind good

pub returns-clause-failure : goal.returns-clause-failure
returns-clause-failure c = λ world lane events n cause kind content few may early. failure-good world lane events n kind content few cause may early

pub returns-clause-end : goal.returns-clause-end
returns-clause-end c = λ world lane events n kind content few last. end-good world lane events n kind content few last
