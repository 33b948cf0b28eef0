-- Targets that are noted once each are no more than there are.
use Rattle.std.proofs.Common.{◌≡◌, ℕ, zero, suc, ◌<◌, ◌==◌, Bool, true, false, ◌||◌, List, [], ◌∷◌, ◌++◌, length, refl, ap, sym, ◌∙◌, subst, ⊎_elim, arith, length-append}
use Rattle.std.specs.Cmp.{nat_eq_equiv}
use Rattle.std.specs.List.{IsDistinct}
use Rattle.std.proofs.lemmas.Bool.{cases_eq, eq-eqb, ne_eqb, both_ways}
use Rattle.std.proofs.lemmas.List.Folds.{list_any-append}
use Rattle.std.proofs.lemmas.Map.Keys.{IsDistinct-push}
use Rattle.std.proofs.lemmas.Map.Made.{length-le_from_is_member}
use Rattle.pl_outbox.specs.Tries.{TriesView, IsTries, is_tried}

-- all numbers below one
abbrev below : ℕ → List ℕ
below zero = []
below (suc n) = n ∷ below n

length-below : (n : ℕ) → length (below n) ≡ n
length-below zero = refl
length-below (suc n) = let h = length-below n in omega (arith, h)

among-below : (n y : ℕ) → y < n → is_tried (below n) y ≡ true
among-below zero y within = absurd (omega (arith, within))
among-below (suc n) y within = ⊎_elim
    (λ (e : y ≡ n). ap (λ (b : Bool). b || is_tried (below n) y) (eq-eqb y n e))
    (λ (e : y ≡ n → ⊥). ap (λ (b : Bool). b || is_tried (below n) y) (ne_eqb y n e) ∙ among-below n y (omega (arith, within, e)))
    (cases_eq y n)

-- what is noted last is tried too
pub tried_more : (ts : List ℕ) (way y : ℕ) → is_tried (ts ++ way ∷ []) y ≡ ((y == way) || is_tried ts y)
tried_more ts way y = list_any-append (λ t. y == t) ts (way ∷ []) ∙ swap (is_tried ts y) (y == way)
  where
    swap : (a b : Bool) → (a || (b || false)) ≡ (b || a)
    swap true true = refl
    swap true false = refl
    swap false true = refl
    swap false false = refl

pub tried_again : (ts : List ℕ) (way y : ℕ) → is_tried ts way ≡ true → is_tried ts y ≡ ((y == way) || is_tried ts y)
tried_again ts way y has = ⊎_elim
    (λ (e : y ≡ way). ap (λ (k : ℕ). is_tried ts k) e ∙ has ∙ sym (ap (λ (b : Bool). b || is_tried ts y) (eq-eqb y way e)))
    (λ (e : y ≡ way → ⊥). sym (ap (λ (b : Bool). b || is_tried ts y) (ne_eqb y way e)))
    (cases_eq y way)

nothing-distinct : IsDistinct (λ (a : ℕ) (b : ℕ). a == b) []
unfolding IsDistinct
nothing-distinct = tt

pub none-tried : (v : TriesView) → v.tried ≡ [] → IsTries v
none-tried v none = record {
  distinct = subst (λ (ts : List ℕ). IsDistinct (λ a b. a == b) ts) (sym none) nothing-distinct;
  there = λ y e. absurd (both_ways (is_tried v.tried y) (ap (λ ts. is_tried ts y) none) e);
}

-- one that was not tried is noted, and there is room for it
module _ (v : TriesView) (is : IsTries v) (way : ℕ) (there : way < v.count) (new : is_tried v.tried way ≡ false) where
  more-there : (y : ℕ) → is_tried (v.tried ++ way ∷ []) y ≡ true → y < v.count
  more-there y member = ⊎_elim
      (λ (e : y ≡ way). subst (λ (k : ℕ). k < v.count) (sym e) there)
      (λ (e : y ≡ way → ⊥). is.there y (ap (λ (b : Bool). b || is_tried v.tried y) (sym (ne_eqb y way e)) ∙ sym (tried_more v.tried way y) ∙ member))
      (cases_eq y way)

  pub tries-hold : (v' : TriesView) → v'.tried ≡ v.tried ++ way ∷ [] → v'.count ≡ v.count → IsTries v'
  tries-hold v' tried count = record {
    distinct = subst (λ (ts : List ℕ). IsDistinct (λ a b. a == b) ts) (sym tried) (IsDistinct-push nat_eq_equiv v.tried way is.distinct new);
    there = λ y member. subst (λ (k : ℕ). y < k) (sym count) (more-there y (ap (λ ts. is_tried ts y) (sym tried) ∙ member));
  }

  pub tries_room : length v.tried < v.count
  tries_room =
      let few = length-le_from_is_member nat_eq_equiv (v.tried ++ way ∷ []) (below v.count) (IsDistinct-push nat_eq_equiv v.tried way is.distinct new)
      (λ y member. among-below v.count y (more-there y member)) in
      let l = length-append v.tried (way ∷ []) in
      let n = length-below v.count in omega (arith, few, l, n)
