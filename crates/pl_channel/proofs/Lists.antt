-- Lists, as an index runs over them, and the only element that passes a test.
use Rattle.std.proofs.Common.{◌≡◌, ℕ, zero, suc, ◌+◌, ◌≤◌, Bool, true, false, cond, not, ◌||◌, List, [], ◌∷◌, ◌++◌, take, refl, ap, ap₂, ◌∙◌, inl, inr, arith}
use Rattle.std.specs.Prelude.{slice_get, Some, None}
use Rattle.std.specs.List.{count_by, position_or_len, list_any}
use Rattle.std.proofs.lemmas.List.{take_more}
use Rattle.std.proofs.lemmas.List.Sums.{sum_by-cons}
use Rattle.std.proofs.lemmas.Option.{slice_get_within, get_or_from_slice_get}
use Rattle.std.proofs.lemmas.Bool.{cases_Bool}

-- one element more
pub take-next : {X : Type 0} (xs : List X) (i : ℕ) (x : X) → slice_get xs i ≡ Some x → take (i + 1) xs ≡ take i xs ++ x ∷ []
take-next xs i x at =
    take_more xs i x (slice_get_within xs i x at) ∙ ap (λ y. take i xs ++ y ∷ []) (get_or_from_slice_get xs i x x at)

-- ---- the only element that passes a test

module _ {X : Type 0} (test : X → Bool) where
  one-counts : (xs : List X) (i : ℕ) (x : X) → slice_get xs i ≡ Some x → test x ≡ true → 1 ≤ count_by test xs
  one-counts [] i x at passes = absurd (no at)
    where
      no : None ≡ Some x → ⊥
      no e = cc
  one-counts (y ∷ ys) zero x at passes =
      let same : y ≡ x = cc at in
      let here = ap {B = ℕ} (λ (b : Bool). cond b 1 0) (ap test same ∙ passes) in
      omega (arith, here, sum_by-cons (λ z. cond (test z) 1 0) y ys)
  one-counts (y ∷ ys) (suc i) x at passes =
      omega (arith, sum_by-cons (λ z. cond (test z) 1 0) y ys, one-counts ys i x at passes)

  -- it is the first, and none before it passes
  pub only-one : (xs : List X) (i : ℕ) (x : X) → count_by test xs ≡ 1 → slice_get xs i ≡ Some x → test x ≡ true → (position_or_len test xs ≡ i) × (list_any test (take i xs) ≡ false)
  only-one [] i x count at passes = absurd (no at)
    where
      no : None ≡ Some x → ⊥
      no e = cc
  only-one (y ∷ ys) zero x count at passes =
      let same : y ≡ x = cc at in
      (ap {B = ℕ} (λ (b : Bool). cond (not b) (1 + position_or_len test ys) 0) (ap test same ∙ passes), refl)
  only-one (y ∷ ys) (suc i) x count at passes = elim (cases_Bool (test y)) [
    | inl first ↦
        let here = ap {B = ℕ} (λ (b : Bool). cond b 1 0) first in
        absurd (omega (arith, count, here, sum_by-cons (λ z. cond (test z) 1 0) y ys, one-counts ys i x at passes))
    | inr passed ↦
        let here = ap {B = ℕ} (λ (b : Bool). cond b 1 0) passed in
        let behind = ap {B = ℕ} (λ (b : Bool). cond (not b) (1 + position_or_len test ys) 0) passed in
        let rest = only-one ys i x (omega (arith, count, here, sum_by-cons (λ z. cond (test z) 1 0) y ys)) at passes in
        (omega (arith, behind, rest.0), ap₂ (λ (a b : Bool). a || b) passed rest.1)
  ]
