-- A printed number has no x, so a text says at most one number and count.
use Rattle.std.proofs.Common.{◌≡◌, ◌≢◌, ℕ, ◌^◌, ◌<◌, ◌≤◌, List, ◌∷◌, ◌++◌, length, get_or, decimal, Option, Some, None, sym, subst, ◌∙◌, arith}
use Rattle.std.proofs.lemmas.Fmt.{decimal_is_IsNumeral, decimal_injective}
use Rattle.std.proofs.lemmas.Str.Parse.{digit_at}
use Rattle.std.proofs.lemmas.Str.Pattern.{IsSplitOnceResult, split_after, split_parts}
use Rattle.std.proofs.lemmas.List.{append-nil, length-append}
use Rattle.std.proofs.Math.Seq.{get_or-append_seam}
use denote.Ref.{Bor}
use Rattle.pl_text.specs.declared.moves_text.terms.TheConstants.{MAX_COUNT}
use Rattle.pl_text.specs.MovesTexts.{AreInRange, count_text}

-- no digit is an x
pub decimal_lacks_x : (n : ℕ) → n < 2 ^ 64 → (i : ℕ) → i < length (decimal n) → get_or (decimal n) i 0 ≢ 120
decimal_lacks_x n small i lt e =
    let digit = digit_at (decimal n) i (decimal_is_IsNumeral n small).0.1 lt in
    omega (arith, digit)

-- a list without x is none with x in it
pub lacks_seam : (ds xs ys : List ℕ) → ds ≡ xs ++ 120 ∷ ys → ((i : ℕ) → i < length ds → get_or ds i 0 ≢ 120) → ⊥
lacks_seam ds xs ys e lacks =
    let within : length xs < length (xs ++ 120 ∷ ys) = omega (arith, length-append xs (120 ∷ ys)) in
    let lacks' = subst (λ (l : List ℕ). (i : ℕ) → i < length l → get_or l i 0 ≢ 120) e lacks in
    lacks' (length xs) within (get_or-append_seam xs 120 ys 0)

pub some_is : (o : Option ℕ) (m n : ℕ) → o ≡ Some m → o ≡ Some n → m ≡ n
some_is o m n p q = cc

pub not_both : (o : Option ℕ) (n : ℕ) → o ≡ Some n → o ≡ None → ⊥
not_both o n p q = cc

-- a text that is printed from a count is not printed from 0
pub count_is_not_0 : (bs : List ℕ) (m n : ℕ) → bs ≡ decimal m → bs ≡ decimal n → m ≡ 0 → 1 ≤ n → n ≤ MAX_COUNT → ⊥
count_is_not_0 bs m n p q zero above below =
    let same : n ≡ m = decimal_injective n m (omega arith) (omega arith) (sym q ∙ p) in
    omega arith

-- a text without x says no count
pub no_x_says : (bs : List ℕ) (n : ℕ) (count : Option ℕ) (r : Option (Bor (List ℕ) × Bor (List ℕ))) → r ≡ None → IsSplitOnceResult 120 bs r → AreInRange n count → bs ≡ decimal n ++ count_text count → bs ≡ decimal n
no_x_says bs n None r none cut fit e = e ∙ append-nil (decimal n)
no_x_says bs n (Some m) r none cut fit e =
    absurd (rw none at (split_after 120 bs (decimal n) (decimal m) r cut (omega arith) e (decimal_lacks_x n (omega (arith, fit.number_fits)))))

-- a text with x says the number before it and the count after it
pub with_x_says : (bs : List ℕ) (n : ℕ) (count : Option ℕ) (r : Option (Bor (List ℕ) × Bor (List ℕ))) (p : Bor (List ℕ) × Bor (List ℕ)) → r ≡ Some p → IsSplitOnceResult 120 bs r → AreInRange n count → bs ≡ decimal n ++ count_text count
    → (m : ℕ) × ((1 ≤ m) × (m ≤ MAX_COUNT)) × ((p.0.now ≡ decimal n) × (p.1.now ≡ decimal m))
with_x_says bs n None r p some cut fit e =
    let parts = rw some at (split_parts 120 bs r cut (omega arith)) in
    let whole : decimal n ≡ p.0.now ++ 120 ∷ p.1.now = sym (e ∙ append-nil (decimal n)) ∙ parts.0 in
    absurd (lacks_seam (decimal n) p.0.now p.1.now whole (decimal_lacks_x n (omega (arith, fit.number_fits))))
with_x_says bs n (Some m) r p some cut fit e =
    (m, fit.count_fits, rw some at (split_after 120 bs (decimal n) (decimal m) r cut (omega arith) e (decimal_lacks_x n (omega (arith, fit.number_fits)))))
