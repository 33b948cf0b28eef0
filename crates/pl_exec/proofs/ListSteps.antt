-- What is left of a list, and its front.
use Rattle.std.proofs.Common.{◌≡◌, ℕ, zero, suc, ◌+◌, ◌<◌, List, [], ◌∷◌, ◌++◌, drop, length, map, slice_get, Some, ⊎_elim, ap, sym, subst, ◌∙◌, arith, add-one, append_assoc, append-nil, length-append, length-drop}
use Rattle.std.proofs.lemmas.List.{nil_from_length}
use Rattle.std.proofs.lemmas.Option.{slice_get_within}
use Rattle.pl_event.proofs.Lists.{slice_get-push, tail-is, slice_get-behind}

pub cons-head : {A : Type 0} (x y : A) (xs ys : List A) → x ∷ xs ≡ y ∷ ys → Some x ≡ Some y
cons-head x y xs ys e = cc

pub nil-cons : {A : Type 0} (x : A) (xs : List A) → [] ≡ x ∷ xs → ⊥
nil-cons x xs e = cc

pub left-front : {A : Type 0} (xs rest : List A) (n : ℕ) (x : A) → drop n xs ≡ x ∷ rest → slice_get xs n ≡ Some x
left-front [] rest zero x is = absurd (nil-cons x rest is)
left-front [] rest (suc n) x is = absurd (nil-cons x rest is)
left-front (y ∷ ys) rest zero x is = cons-head y x ys rest is
left-front (y ∷ ys) rest (suc n) x is = left-front ys rest n x is

drop-suc : {A : Type 0} (xs rest : List A) (n : ℕ) (x : A) → drop n xs ≡ x ∷ rest → drop (suc n) xs ≡ rest
drop-suc [] rest zero x is = absurd (nil-cons x rest is)
drop-suc [] rest (suc n) x is = absurd (nil-cons x rest is)
drop-suc (y ∷ ys) rest zero x is = tail-is y x ys rest is
drop-suc (y ∷ ys) rest (suc n) x is = drop-suc ys rest n x is

pub left-behind : {A : Type 0} (xs rest : List A) (n : ℕ) (x : A) → drop n xs ≡ x ∷ rest → drop (n + 1) xs ≡ rest
left-behind xs rest n x is = ap (λ (k : ℕ). drop k xs) (add-one n) ∙ drop-suc xs rest n x is

pub at-next : {A : Type 0} (all done left rest : List A) (x : A) (n : ℕ) → done ++ left ≡ all → left ≡ x ∷ rest → n ≡ length done → slice_get all n ≡ Some x
at-next {A = A} all done left rest x n whole front place =
    (λ i. slice_get (sym whole i) (place i)) ∙ ap (λ (l : List A). slice_get (done ++ l) (length done)) front ∙ slice_get-behind done rest x

-- so there are more than that
pub next-within : {A : Type 0} (all done left rest : List A) (x : A) (n : ℕ) → done ++ left ≡ all → left ≡ x ∷ rest → n ≡ length done → n < length all
next-within all done left rest x n whole front place = slice_get_within all n x (at-next all done left rest x n whole front place)

-- with the next done, what is behind it is left
pub one-more : {A : Type 0} (all done left rest : List A) (x : A) → left ≡ x ∷ rest → done ++ left ≡ all → (done ++ x ∷ []) ++ rest ≡ all
one-more {A = A} all done left rest x front whole = append_assoc done (x ∷ []) rest ∙ ap (λ (l : List A). done ++ l) (sym front) ∙ whole

pub all-done : {A : Type 0} (all done left : List A) → left ≡ [] → done ++ left ≡ all → done ≡ all
all-done {A = A} all done left none whole = sym (append-nil done) ∙ ap (λ (l : List A). done ++ l) (sym none) ∙ whole

-- what was made of the first, with that of what is left, is that of all: so it is with one more made
pub made-next : {A B : Type 0} (f : A → B) (whole made more : List B) (left rest : List A) (x : A) → left ≡ x ∷ rest → more ≡ made ++ f x ∷ [] → made ++ map f left ≡ whole → more ++ map f rest ≡ whole
made-next {A = A} {B = B} f whole made more left rest x front added so_far =
    ap (λ (l : List B). l ++ map f rest) added
    ∙ append_assoc made (f x ∷ []) (map f rest)
    ∙ ap (λ (l : List A). made ++ map f l) (sym front)
    ∙ so_far

-- where none is left, it is all
pub made-whole : {A B : Type 0} (f : A → B) (whole made : List B) (left : List A) → left ≡ [] → made ++ map f left ≡ whole → made ≡ whole
made-whole {A = A} f whole made left none so_far = sym (append-nil made) ∙ ap (λ (l : List A). made ++ map f l) (sym none) ∙ so_far

-- of two lists one has as many as the other behind their first
pub both-behind : {A B : Type 0} (xs xs' : List A) (ys ys' : List B) (x : A) (y : B) → length ys ≡ length xs → xs ≡ x ∷ xs' → ys ≡ y ∷ ys' → length ys' ≡ length xs'
both-behind {A = A} {B = B} xs xs' ys ys' x y same front back =
    let one = ap (λ (l : List A). length l) front in
    let other = ap (λ (l : List B). length l) back in
    omega (arith, same, one, other)

-- where as many are done as there are, none is left
pub none-left : {A B : Type 0} (others : List B) (all done left : List A) (n : ℕ) → drop n others ≡ [] → n ≡ length done → length others ≡ length all → done ++ left ≡ all → done ≡ all
none-left {A = A} {B = B} others all done left n none place count whole =
    let past = length-drop n others in
    let empty = ap (λ (l : List B). length l) none in
    let sum = ap (λ (l : List A). length l) whole in
    all-done all done left (nil_from_length left (omega (arith, past, empty, place, count, sum, length-append done left))) whole

-- what is so of the values of each number in two lists is so with one more of each
pub both-push : {A B : Type 0} (P : ℕ → A → B → Type 0) (xs : List A) (ys : List B) (x : A) (y : B) → length xs ≡ length ys → ((n : ℕ) (a : A) (b : B) → slice_get xs n ≡ Some a → slice_get ys n ≡ Some b → P n a b) → P (length xs) x y
    → (n : ℕ) (a : A) (b : B) → slice_get (xs ++ x ∷ []) n ≡ Some a → slice_get (ys ++ y ∷ []) n ≡ Some b → P n a b
both-push {A = A} {B = B} P xs ys x y same each last n a b at-a at-b = ⊎_elim
    (λ (e : slice_get xs n ≡ Some a). ⊎_elim
    (λ (f : slice_get ys n ≡ Some b). each n a b e f)
    (λ (f : (n ≡ length ys) × (b ≡ y)). let within = slice_get_within xs n a e in absurd (omega (arith, same, within, f.0)))
    (slice_get-push ys y b n at-b))
    (λ (e : (n ≡ length xs) × (a ≡ x)). ⊎_elim
    (λ (f : slice_get ys n ≡ Some b). let within = slice_get_within ys n b f in absurd (omega (arith, same, within, e.0)))
    (λ (f : (n ≡ length ys) × (b ≡ y)). subst (λ (z : ℕ × A × B). P z.0 z.1 z.2) (λ i. (sym e.0 i, sym e.1 i, sym f.1 i)) last)
    (slice_get-push ys y b n at-b))
    (slice_get-push xs x a n at-a)
