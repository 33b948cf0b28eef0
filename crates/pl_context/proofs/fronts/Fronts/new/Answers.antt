use Rattle.pl_context.proofs.FrontLemmas.{fronts-none}
use Rattle.pl_context.proofs.fronts.Fronts.new.Goals as goal

pub invariant_of-result : goal.invariant_of-result
invariant_of-result c = rw c.in_ok-with_capacity.ensures.items (fronts-none _)
