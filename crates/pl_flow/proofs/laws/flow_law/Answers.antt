use Rattle.pl_flow.proofs.FlowLemmas.{IsFlow-append}
use Rattle.pl_flow.proofs.laws.flow_law.Goals as goal

pub returns : goal.returns
returns c = λ world p xs ys f g. IsFlow-append world p xs ys f g
