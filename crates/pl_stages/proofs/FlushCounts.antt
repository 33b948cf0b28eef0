-- Flushes, one more.
use Rattle.std.proofs.Common.{◌≡◌, ℕ, ◌+◌, ◌%◌, ◌<◌, List, [], ◌∷◌, ◌++◌, Bool, true, false, not, ◌||◌, cond, eqb, sym, ap, ◌∙◌, arith}
use Rattle.std.proofs.lemmas.Bool.Decides.{nat_tests}
use Rattle.std.proofs.lemmas.List.Sums.{sum_by_push}
use Rattle.pl_event.specs.declared.events.Event.{Event}
use Rattle.pl_stages.specs.Flushes.{flushes, is_flush_event, passes}

flushes-push : (xs : List Event) (x : Event) → is_flush_event x ≡ true → flushes (xs ++ x ∷ []) ≡ flushes xs + 1
flushes-push xs x flush =
    sum_by_push (λ (e : Event). cond (is_flush_event e) 1 0) xs x ∙ ap (λ (is : Bool). flushes xs + cond is 1 0) flush

mod_next : (f n k : ℕ) → k ≡ f % n → k + 1 < n → (f + 1) % n ≡ k + 1
mod_next f n k is below = grind (arith)

-- a flush that is held back is the next one, and no multiple of n
pub counted-held : (n k : ℕ) (xs : List Event) (x : Event) → is_flush_event x ≡ true → k ≡ flushes xs % n → k + 1 < n
    → k + 1 ≡ flushes (xs ++ x ∷ []) % n
counted-held n k xs x flush is below =
    sym (ap (λ (f : ℕ). f % n) (flushes-push xs x flush) ∙ mod_next (flushes xs) n k is below)

no_multiple : (k : ℕ) → eqb (k + 1) 0 ≡ false
no_multiple k = grind (arith, nat_tests)

pub passes-held : (n k : ℕ) (xs : List Event) (x : Event) → is_flush_event x ≡ true → k ≡ flushes xs % n → k + 1 < n
    → passes n xs x ≡ false
passes-held n k xs x flush is below =
    ap (λ (b : Bool). not b || eqb (flushes (xs ++ x ∷ []) % n) 0) flush
    ∙ ap (λ (r : ℕ). eqb r 0) (sym (counted-held n k xs x flush is below)) ∙ no_multiple k
