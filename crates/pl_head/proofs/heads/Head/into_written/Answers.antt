use Rattle.pl_head.proofs.HeadAfter.{outcomes_after}
use Rattle.pl_head.proofs.heads.Head.into_written.Goals as goal

pub returns-clause-outcomes : goal.returns-clause-outcomes
returns-clause-outcomes g c =
    rw (← c.self.view_is)
    (λ ys zs sizes s. outcomes_after _ _ _ ys zs _ sizes _ s c.into_outcomes.ensures.view (λ t. c.into_outcomes.ensures.stands _ ys _ sizes t))
