use Rattle.std.proofs.Common.{sym, subst, ◌∙◌}
use Rattle.pl_context.specs.WaitingViews.{WaitingView, Holds}
use Rattle.pl_context.proofs.WaitingFronts.{fronts-none-wait}
use Rattle.pl_context.proofs.waiting.Waiting.is_empty.Goals as goal

pub returns : goal.returns
returns g c = λ entries h.
    c.is_empty.ensures ∙ fronts-none-wait _ _ entries (subst (λ (w : WaitingView g.row.A.Denot). Holds w entries) (sym c.self.view_is) h) c.self.invariant
