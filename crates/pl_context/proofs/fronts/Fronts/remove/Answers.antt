use Rattle.std.proofs.Common.{None, rules}
use Rattle.pl_context.specs.Fronts.{age_for}
use Rattle.pl_context.proofs.FrontLemmas.{ages-kept, fronts-kept, fronts-remove, ages-remove}
use Rattle.pl_context.proofs.fronts.Fronts.remove.Goals as goal

pub invariant_of-self : goal.invariant_of-self
invariant_of-self c =
    rw c.remove.ensures.items
    (rw c.remove.ensures.capacity
    (fronts-remove _ _ c.args.target c.self.invariant c.in-Some.index (search rules)))

pub returns-in-Some-clause-ages : goal.returns-in-Some-clause-ages
returns-in-Some-clause-ages c = λ y.
    rw c.remove.ensures.items
    (rw (← c.self.view_is) (ages-remove _ _ c.args.target c.self.invariant c.in-Some.index (search rules) y))

pub returns-in_default-clause-ages : goal.returns-in_default-clause-ages
returns-in_default-clause-ages c =
    ages-kept (age_for c.args.self.now) c.args.target None (rw (← c.self.view_is) (fronts-kept _ _ c.args.target c.self.invariant (search rules)))
