use Rattle.pl_flow.proofs.StageFlows.{ups-good, downs-good}
use Rattle.pl_flow.proofs.laws.stage_flow_law.Goals as goal

pub returns-clause-up : goal.returns-clause-up
returns-clause-up c = λ world m lane events before after x made kind content few whole count. ups-good world m lane events before after x made kind content few whole count

pub returns-clause-down : goal.returns-clause-down
returns-clause-down c = λ world m lane events before after x made kind content few whole count. downs-good world m lane events before after x made kind content few whole count
