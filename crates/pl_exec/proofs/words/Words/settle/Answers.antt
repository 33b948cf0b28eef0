use Rattle.std.specs.Prelude.{IfErr, IfOk}
use Rattle.std.proofs.Common.{◌≡◌, ◌⊎◌, ◌<◌, ℕ, Result, Ok, Err, None, inl, inr, ⊎_elim, sym, subst, ◌∙◌}
use Rattle.std.proofs.lemmas.Option.{none-some}
use Rattle.pl_event.specs.declared.outcomes.Outcome.{Outcome}
use Rattle.pl_words.specs.PromiseRule.{at}
use Rattle.pl_words.specs.PromiseViews.{SettleSeatView, Settles, Meets}
use Rattle.pl_exec.specs.SessionWords.{SeatsView}
use Rattle.pl_exec.proofs.words.Words.settle.Goals as goal

-- what a try at a promise that is kept finds
tried : {A : Type 0} (n limit : ℕ) (old new : SettleSeatView) (outcome : Outcome) (result : Result A Outcome) → n < limit → IfOk result (λ _. n < limit → Settles old n outcome new)
    → IfErr result (λ found. (n < limit) × Meets old n found new) → Settles old n outcome new ⊎ ((found : Outcome) × Meets old n found new)
tried n limit old new outcome (Ok a) within ok err = inl (ok within)
tried n limit old new outcome (Err found) within ok err = inr (found, err.1)

-- where it is unset and there is one settler, the try settles it
first : (n : ℕ) (old new : SettleSeatView) (outcome : Outcome) → old.settlers ≡ 1 → at old.settled n ≡ None → Settles old n outcome new ⊎ ((found : Outcome) × Meets old n found new) → Settles old n outcome new
first n old new outcome one unset found = ⊎_elim
    (λ (s : Settles old n outcome new). s)
    (λ (m : (found : Outcome) × Meets old n found new). absurd (none-some m.0 (sym unset ∙ m.1.sole one)))
    found

pub returns-clause-tried : goal.returns-clause-tried
returns-clause-tried c = λ few.
    let new = c.try_settle-tried.new.seat in
    subst (λ (s : SeatsView). Settles s.settle c.args.n c.args.outcome new ⊎ ((found : Outcome) × Meets s.settle c.args.n found new)) c.seats.view_is
    (tried c.args.n c.behind-self.inside.promises.limit c.seats.inside.settle new c.args.outcome c.try_settle-tried.result (subst (λ (k : ℕ). c.args.n < k) (sym c.behind-self.invariant) few)
    c.try_settle-tried.ensures.ok c.try_settle-tried.ensures.err)

pub returns-clause-first : goal.returns-clause-first
returns-clause-first c = λ few.
    let new = c.try_settle-tried.new.seat in
    subst (λ (s : SeatsView). at s.settle.settled c.args.n ≡ None → Settles s.settle c.args.n c.args.outcome new) c.seats.view_is
    (λ unset. first c.args.n c.seats.inside.settle new c.args.outcome c.seats.invariant unset
    (tried c.args.n c.behind-self.inside.promises.limit c.seats.inside.settle new c.args.outcome c.try_settle-tried.result (subst (λ (k : ℕ). c.args.n < k) (sym c.behind-self.invariant) few)
    c.try_settle-tried.ensures.ok c.try_settle-tried.ensures.err))
