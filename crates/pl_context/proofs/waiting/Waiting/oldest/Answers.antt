use Rattle.std.proofs.Common.{◌≡◌, ℕ, Bool, sym, subst, ◌∙◌}
use Rattle.pl_context.specs.WaitingViews.{WaitingView, Holds}
use Rattle.pl_context.proofs.WaitingFronts.{fronts-there, fronts-oldest}
use Rattle.pl_context.proofs.waiting.Waiting.oldest.Goals as goal

pub oldest-requires : goal.oldest-requires
oldest-requires g c =
    fronts-there _ _ c.self.invariant (λ (y : ℕ). goal.F-pre g c.args.is_open y) (λ y there. c.requires y (rw (← c.self.view_is) there))

pub returns : goal.returns
returns g c = λ opens entries answers h.
    c.oldest.ensures.first opens (fronts-there _ _ c.self.invariant (λ (y : ℕ). (answer : Bool) → goal.F-post g c.args.is_open y answer → answer ≡ opens y) (λ y there answer said. answers y answer (rw (← c.self.view_is) there) said))
    ∙ fronts-oldest _ _ entries (subst (λ (w : WaitingView g.row.A.Denot). Holds w entries) (sym c.self.view_is) h) c.self.invariant opens c.oldest.ensures.order
