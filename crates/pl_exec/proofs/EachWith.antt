-- The values of one list, added to those of another, one after the other.
use Rattle.std.proofs.Common.{◌≡◌, ℕ, suc, ◌+◌, ◌<◌, List, [], ◌∷◌, ◌++◌, length, set, get_or, slice_get, Some, refl, ap, sym, ◌∙◌, arith, append_assoc, length-append}
use Rattle.std.proofs.lemmas.Option.{none-some, same_Some, slice_get_read}
use Rattle.pl_exec.specs.Adding.{each_with}
use Rattle.pl_exec.proofs.ListSteps.{all-done}

module _ {A B : Type 0} (add : A → B → A) where
  added-none : (xs : List A) → each_with add xs [] ≡ xs
  added-none [] = refl
  added-none (x ∷ xs) = refl

  pub added-count : (xs : List A) (ys : List B) → length (each_with add xs ys) ≡ length xs
  added-count [] ys = refl
  added-count (x ∷ xs) [] = refl
  added-count (x ∷ xs) (y ∷ ys) = ap suc (added-count xs ys)

  added-push : (xs : List A) (ys : List B) (x : A) (y : B) → slice_get (each_with add xs ys) (length ys) ≡ Some x → set (each_with add xs ys) (length ys) (add x y) ≡ each_with add xs (ys ++ y ∷ [])
  added-push [] ys x y found = absurd (none-some x found)
  added-push (u ∷ us) [] x y found = ap (λ (z : A). add z y ∷ us) (sym (same_Some u x found)) ∙ ap (λ (rest : List A). add u y ∷ rest) (sym (added-none us))
  added-push (u ∷ us) (v ∷ vs) x y found = ap (λ (rest : List A). add u v ∷ rest) (added-push us vs x y found)

  -- ---- one value after the other

  -- The first of all values were added, and the rest is left. The next has this number.
  pub record AddsFirst (xs : List A) (all first rest : List B) (number : ℕ) (now : List A) : Type 0 where
    pub left : first ++ rest ≡ all
    pub at : number ≡ length first
    pub added : now ≡ each_with add xs first

module _ {A B : Type 0} {add : A → B → A} {xs : List A} {all : List B} where
  pub adds-none : {rest : List B} → rest ≡ all → AddsFirst add xs all [] rest 0 xs
  adds-none whole = record { left = whole; at = refl; added = sym (added-none add xs) }

  module _ {first rest : List B} {number : ℕ} {now : List A} (adds : AddsFirst add xs all first rest number now) where
    -- there is one to which the next is added
    pub adds-within : {value : B} {later : List B} → rest ≡ value ∷ later → length all ≡ length xs → number < length now
    adds-within {value = value} {later = later} front count =
        let sum = length-append first rest in
        let whole = ap (λ (l : List B). length l) adds.left in
        let next = ap (λ (l : List B). length l) front in
        let same = ap (λ (l : List A). length l) adds.added in
        omega (arith, sum, whole, next, count, same, adds.at, added-count add xs first)

    -- the next is added
    pub adds-next : {value : B} {later : List B} {x y : A} → rest ≡ value ∷ later → length all ≡ length xs → x ≡ get_or now number x → y ≡ add x value → AddsFirst add xs all (first ++ value ∷ []) later (number + 1) (set now number y)
    adds-next {value = value} {later = later} {x = x} {y = y} front count read grown =
        let found : slice_get (each_with add xs first) (length first) ≡ Some x =
        (λ i. slice_get (sym adds.added i) (sym adds.at i)) ∙ slice_get_read now (length now) number x refl (adds-within front count) read in
        record {
          left = append_assoc first (value ∷ []) later ∙ ap (λ (l : List B). first ++ l) (sym front) ∙ adds.left;
          at = omega (arith, adds.at, length-append first (value ∷ []));
          added = ap (λ (z : A). set now number z) grown ∙ (λ i. set (adds.added i) (adds.at i) (add x value)) ∙ added-push add xs first x value found;
        }

    -- all are
    pub adds-all : rest ≡ [] → now ≡ each_with add xs all
    adds-all none = adds.added ∙ ap (each_with add xs) (all-done all first rest none adds.left)
