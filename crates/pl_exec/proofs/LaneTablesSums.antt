-- Sums over numbers in a row, and what the lists that tests pick from one list have together.
use Rattle.std.proofs.Common.{◌≡◌, ℕ, zero, suc, ◌+◌, ◌<◌, ◌≤◌, ◌==◌, Bool, true, false, cond, List, [], ◌∷◌, length, filter, sum_by, get_or, refl, ap, sym, ◌∙◌, ⊎_elim, inl, inr, arith}
use Rattle.std.specs.Prelude.{◌⊎◌}
use Rattle.std.specs.List.{count_by, flat_map, range_with_len}
use Rattle.std.proofs.lemmas.Bool.{cases_eq, eq-eqb, ne_eqb}
use Rattle.std.proofs.lemmas.List.Sums.{sum_by-cons, sum_by-append, sum_by-le}

pub sum_by-flat_map : {X Y : Type 0} (g : Y → ℕ) (f : X → List Y) (xs : List X) → sum_by g (flat_map f xs) ≡ sum_by (λ x. sum_by g (f x)) xs
sum_by-flat_map g f [] = refl
sum_by-flat_map g f (x ∷ xs) =
    sum_by-append g (f x) (flat_map f xs) ∙ ap (λ (n : ℕ). sum_by g (f x) + n) (sum_by-flat_map g f xs) ∙ sym (sum_by-cons (λ z. sum_by g (f z)) x xs)

pub sum_by-plus : {X : Type 0} (f g : X → ℕ) (xs : List X) → sum_by (λ x. f x + g x) xs ≡ sum_by f xs + sum_by g xs
sum_by-plus f g [] = refl
sum_by-plus f g (x ∷ xs) =
    let rest = sum_by-plus f g xs in
    omega (arith, rest, sum_by-cons (λ z. f z + g z) x xs, sum_by-cons f x xs, sum_by-cons g x xs)

pub count-all : {X : Type 0} (xs : List X) → count_by (λ x. true) xs ≡ length xs
count-all [] = refl
count-all (x ∷ xs) =
    let rest = count-all xs in
    omega (arith, rest, sum_by-cons (λ z. 1) x xs)

-- ---- a value at one number, summed over numbers in a row

pub at-none : (x v a n : ℕ) → x < a → sum_by (λ k. cond (x == k) v 0) (range_with_len a n) ≡ 0
at-none x v a zero before = refl
at-none x v a (suc n) before =
    let rest = at-none x v (a + 1) n (omega (arith, before)) in
    let first = ap (λ b. cond b v 0) (ne_eqb x a (λ e. omega (arith, e, before))) in
    omega (arith, rest, first, sum_by-cons (λ k. cond (x == k) v 0) a (range_with_len (a + 1) n))

-- the first number is it, and no later one; or it is not
first-or-later : (x v a n : ℕ)
    → ((x ≡ a) × (sum_by (λ k. cond (x == k) v 0) (range_with_len a (suc n)) ≡ v))
    ⊎ ((x ≡ a → ⊥) × (sum_by (λ k. cond (x == k) v 0) (range_with_len a (suc n)) ≡ sum_by (λ k. cond (x == k) v 0) (range_with_len (a + 1) n)))
first-or-later x v a n =
    let sum = sum_by-cons (λ k. cond (x == k) v 0) a (range_with_len (a + 1) n) in
    ⊎_elim
    (λ (here : x ≡ a).
    let first = ap (λ b. cond b v 0) (eq-eqb x a here) in
    let rest = at-none x v (a + 1) n (omega (arith, here)) in
    inl (here, omega (arith, first, rest, sum)))
    (λ (elsewhere : x ≡ a → ⊥). let first = ap (λ b. cond b v 0) (ne_eqb x a elsewhere) in inr (elsewhere, omega (arith, first, sum)))
    (cases_eq x a)

pub at-most : (x v a n : ℕ) → sum_by (λ k. cond (x == k) v 0) (range_with_len a n) ≤ v
at-most x v a zero = omega arith
at-most x v a (suc n) = elim (first-or-later x v a n) [
  | inl here ↦ omega (arith, here.1)
  | inr later ↦ let rest = at-most x v (a + 1) n in omega (arith, later.1, rest)
]

pub at-one : (x v a n : ℕ) → a ≤ x → x < a + n → sum_by (λ k. cond (x == k) v 0) (range_with_len a n) ≡ v
at-one x v a zero from below = absurd (omega (arith, from, below))
at-one x v a (suc n) from below = elim (first-or-later x v a n) [
  | inl here ↦ here.1
  | inr later ↦ later.1 ∙ at-one x v (a + 1) n (omega (arith, from, later.0)) (omega (arith, below))
]

pub at-past : (x v a n : ℕ) → a + n ≤ x → sum_by (λ k. cond (x == k) v 0) (range_with_len a n) ≡ 0
at-past x v a zero past = refl
at-past x v a (suc n) past =
    let rest = at-past x v (a + 1) n (omega (arith, past)) in
    let first = ap (λ b. cond b v 0) (ne_eqb x a (λ e. omega (arith, e, past))) in
    omega (arith, rest, first, sum_by-cons (λ k. cond (x == k) v 0) a (range_with_len (a + 1) n))

-- ---- lists picked by tests of which each element passes at most one

module _ {X Y : Type 0} (q : X → Y → Bool) (t : Y → Bool) (xs : List X) where
  none : (y : Y) → sum_by (λ x. cond (q x y) 0 0) xs ≤ 0
  none y =
      let sum = sum_by-le (λ x. cond (q x y) 0 0) 0 xs (λ k d within. zero-is (q (get_or xs k d) y)) in
      omega (arith, sum)
    where
      zero-is : (b : Bool) → cond b 0 0 ≤ 0
      zero-is true = omega arith
      zero-is false = omega arith

  one : (y : Y) → count_by (λ x. q x y) xs ≤ 1 → sum_by (λ x. cond (q x y) (cond (t y) 1 0) 0) xs ≤ cond (t y) 1 0
  one y once = elim (t y) as (λ b. sum_by (λ x. cond (q x y) (cond b 1 0) 0) xs ≤ cond b 1 0) [ true ↦ once | false ↦ none y ]

  step : (y : Y) (ys : List Y) (x : X) → count_by t (filter (q x) (y ∷ ys)) ≡ cond (q x y) (cond (t y) 1 0) 0 + count_by t (filter (q x) ys)
  step y ys x = elim (q x y) as (λ b. count_by t (cond b (y ∷ filter (q x) ys) (filter (q x) ys)) ≡ cond b (cond (t y) 1 0) 0 + count_by t (filter (q x) ys)) [
    | true ↦ sum_by-cons (λ z. cond (t z) 1 0) y (filter (q x) ys)
    | false ↦ omega arith
  ]

  -- together they have no more of a kind than the list that was filtered
  pub count-parts : ((y : Y) → count_by (λ x. q x y) xs ≤ 1) → (ys : List Y) → count_by t (flat_map (λ x. filter (q x) ys) xs) ≤ count_by t ys
  count-parts once ys =
      let sum = sum_by-flat_map (λ y. cond (t y) 1 0) (λ x. filter (q x) ys) xs in
      omega (arith, sum, parts ys)
    where
      parts : (ys : List Y) → sum_by (λ x. count_by t (filter (q x) ys)) xs ≤ count_by t ys
      parts [] =
          let sum = sum_by-le (λ (x : X). 0) 0 xs (λ k d within. omega arith) in
          omega (arith, sum)
      parts (y ∷ ys) =
          let steps : sum_by (λ x. count_by t (filter (q x) (y ∷ ys))) xs ≡ sum_by (λ x. cond (q x y) (cond (t y) 1 0) 0 + count_by t (filter (q x) ys)) xs = λ i. sum_by (λ x. step y ys x i) xs in
          let sum = sum_by-plus (λ x. cond (q x y) (cond (t y) 1 0) 0) (λ x. count_by t (filter (q x) ys)) xs in
          let rest = parts ys in
          omega (arith, steps, sum, rest, one y (once y), sum_by-cons (λ z. cond (t z) 1 0) y ys)
