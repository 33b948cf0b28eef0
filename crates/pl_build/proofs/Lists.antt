-- Lists through `filter` and `take_while`.
use Rattle.std.proofs.Common.{◌≡◌, ℕ, ◌+◌, ◌<◌, ◌≤◌, Bool, true, false, ◌&&◌, not, cond, List, [], ◌∷◌, ◌++◌, length, take, drop, filter, sym, refl, ap, ◌∙◌, arith}
use Rattle.std.specs.List.{list_all, take_while, prefix_len, position_or_len, count_by}
use Rattle.std.proofs.lemmas.Bool.{and_parts}
use Rattle.std.proofs.lemmas.List.{take-append-drop, length-append}
use Rattle.std.proofs.lemmas.List.Sums.{take_while-cons, sum_by-cons}

-- what stands before the first element that fails, with an element more at the end
pub take_while_push : {X : Type 0} (p : X → Bool) (xs : List X) (x : X) → take_while p (xs ++ x ∷ []) ≡ take_while p xs ++ cond (list_all p xs && p x) (x ∷ []) []
take_while_push p [] x = elim (p x) as (λ b. take (cond b 1 0) (x ∷ []) ≡ cond b (x ∷ []) []) [ true ↦ refl | false ↦ refl ]
take_while_push p (y ∷ xs) x =
    take_while-cons p y (xs ++ x ∷ []) ∙ split (take_while_push p xs x) ∙ ap (λ t. t ++ cond ((p y && list_all p xs) && p x) (x ∷ []) []) (sym (take_while-cons p y xs))
  where
    split : take_while p (xs ++ x ∷ []) ≡ take_while p xs ++ cond (list_all p xs && p x) (x ∷ []) [] → cond (p y) (y ∷ take_while p (xs ++ x ∷ [])) [] ≡ cond (p y) (y ∷ take_while p xs) [] ++ cond ((p y && list_all p xs) && p x) (x ∷ []) []
    split tail = elim (p y) as (λ b. cond b (y ∷ take_while p (xs ++ x ∷ [])) [] ≡ cond b (y ∷ take_while p xs) [] ++ cond ((b && list_all p xs) && p x) (x ∷ []) []) [ true ↦ ap (λ t. y ∷ t) tail | false ↦ refl ]

-- all pass
pub take_while_all : {X : Type 0} (p : X → Bool) (xs : List X) → list_all p xs ≡ true → take_while p xs ≡ xs
take_while_all p [] all = refl
take_while_all p (x ∷ xs) all =
    let parts = and_parts (p x) (list_all p xs) all in
    take_while-cons p x xs ∙ ap (λ b. cond b (x ∷ take_while p xs) []) parts.0 ∙ ap (λ t. x ∷ t) (take_while_all p xs parts.1)

pub length-take_while-le : {X : Type 0} (p : X → Bool) (xs : List X) → length (take_while p xs) ≤ length xs
length-take_while-le {X = X} p xs =
    omega (arith, ap (λ (ys : List X). length ys) (take-append-drop (prefix_len p xs) xs), length-append (take (prefix_len p xs) xs) (drop (prefix_len p xs) xs))

-- the first that passes p, among those that pass q: before it stand those before it that pass q
pub position_or_len-filter : {X : Type 0} (p q : X → Bool) (xs : List X) → ((x : X) → p x ≡ true → q x ≡ true) → position_or_len p (filter q xs) ≡ length (filter q (take_while (λ x. not (p x)) xs))
position_or_len-filter p q [] kept = refl
position_or_len-filter {X = X} p q (x ∷ xs) kept =
    by (q x) refl (p x) refl (position_or_len-filter p q xs kept) ∙ sym (ap (λ (t : List X). length (filter q t)) (take_while-cons (λ y. not (p y)) x xs))
  where
    rest : List X
    rest = take_while (λ y. not (p y)) xs

    chosen : (b : Bool) → q x ≡ b → position_or_len p (filter q (x ∷ xs)) ≡ position_or_len p (cond b (x ∷ filter q xs) (filter q xs))
    chosen b is = ap (λ (v : Bool). position_or_len p (cond v (x ∷ filter q xs) (filter q xs))) is

    first : (c : Bool) → p x ≡ c → position_or_len p (x ∷ filter q xs) ≡ cond (not c) (1 + position_or_len p (filter q xs)) 0
    first c is = ap (λ (v : Bool). cond (not v) (1 + position_or_len p (filter q xs)) 0) is

    front : (b c : Bool) → q x ≡ b → p x ≡ c → length (filter q (cond (not (p x)) (x ∷ rest) [])) ≡ cond (not c) (length (cond b (x ∷ filter q rest) (filter q rest))) 0
    front b true q_is p_is = ap {B = ℕ} (λ (v : Bool). length (filter q (cond (not v) (x ∷ rest) []))) p_is
    front b false q_is p_is =
        ap {B = ℕ} (λ (v : Bool). length (filter q (cond (not v) (x ∷ rest) []))) p_is
        ∙ ap {B = ℕ} (λ (v : Bool). length (cond v (x ∷ filter q rest) (filter q rest))) q_is

    by : (b : Bool) → q x ≡ b → (c : Bool) → p x ≡ c → position_or_len p (filter q xs) ≡ length (filter q rest) → position_or_len p (filter q (x ∷ xs)) ≡ length (filter q (cond (not (p x)) (x ∷ rest) []))
    by true q_is true p_is tail = chosen true q_is ∙ first true p_is ∙ sym (front true true q_is p_is)
    by true q_is false p_is tail = omega (arith, chosen true q_is, first false p_is, tail, front true false q_is p_is)
    by false q_is true p_is tail = let none = sym (kept x p_is) ∙ q_is in cc
    by false q_is false p_is tail = chosen false q_is ∙ tail ∙ sym (front false false q_is p_is)

-- where one element passes at least, the first of them is there
pub first_within : {X : Type 0} (p : X → Bool) (xs : List X) → 0 < count_by p xs → position_or_len p xs < length xs
first_within p [] some = absurd (omega (arith, some))
first_within {X = X} p (x ∷ xs) some = by (p x) refl (first_within p xs)
  where
    by : (b : Bool) → p x ≡ b → (0 < count_by p xs → position_or_len p xs < length xs) → position_or_len p (x ∷ xs) < length (x ∷ xs)
    by true is rest = omega (arith, ap {B = ℕ} (λ (v : Bool). cond (not v) (1 + position_or_len p xs) 0) is)
    by false is rest =
        let more : 0 < count_by p xs = omega (arith, some, sum_by-cons (λ (y : X). cond (p y) 1 0) x xs, ap {B = ℕ} (λ (v : Bool). cond v 1 0) is) in
        omega (arith, ap {B = ℕ} (λ (v : Bool). cond (not v) (1 + position_or_len p xs) 0) is, rest more)
