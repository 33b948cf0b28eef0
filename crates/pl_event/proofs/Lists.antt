-- Lists through `map`, `filter`, `position`, `set`, a push, and prefixes, two lists place by place, and values that are there:
-- what std does not say of them.
use Rattle.std.proofs.Common.{◌≡◌, ◌≢◌, ℕ, zero, suc, ◌+◌, ◌<◌, ◌≤◌, Bool, true, false, ◌||◌, ◌&&◌, not, cond, nat_lt, Option, Some, None, List, [], ◌∷◌, ◌++◌, length, map, filter, reverse, get_or, set, take, drop, sum_by, sym, refl, ap, ap₂, subst, ◌∙◌, arith, inl, inr, append_assoc}
use Rattle.std.specs.Prelude.{◌⊎◌, is_some}
use Rattle.std.specs.List.{All, AllZip, list_any, list_all, take_while, prefix_len, position, position_or_len, insert, remove, count_by, find, flat_map, slice_get}
use Rattle.std.specs.Option.{option_map}
use Rattle.std.proofs.lemmas.List.{map-append, take-map, drop-map, reverse-append, length-map, length-set, get_or-set_same, get_or-set_other, take-append-drop, map_push}
use Rattle.std.proofs.lemmas.List.Folds.{fold-map, list_any-append}
use Rattle.std.proofs.lemmas.List.Elements.{All-get_or, All-from_get_or, All-nil, All-cons, All-head, All-tail, All-push}
use Rattle.std.proofs.lemmas.Option.{none-some, same_Some, slice_get_within, slice_get-get_or, get_or_from_slice_get, slice_get_cases, slice_get-map}
use Rattle.std.proofs.lemmas.Bool.{and_parts}
use Rattle.pl_event.specs.Meaning.{IsPrefixOf}

-- ---- through a map

pub filter-map : {X Y : Type 0} (p : Y → Bool) (f : X → Y) (xs : List X) → filter p (map f xs) ≡ map f (filter (λ x. p (f x)) xs)
filter-map p f [] = refl
filter-map p f (x ∷ xs) =
    let rest = filter-map p f xs in
    elim (p (f x)) as (λ b. cond b (f x ∷ filter p (map f xs)) (filter p (map f xs)) ≡ map f (cond b (x ∷ filter (λ z. p (f z)) xs) (filter (λ z. p (f z)) xs))) [ true ↦ ap (λ t. f x ∷ t) rest | false ↦ rest ]

pub list_any-map : {X Y : Type 0} (p : Y → Bool) (f : X → Y) (xs : List X) → list_any p (map f xs) ≡ list_any (λ x. p (f x)) xs
list_any-map p f [] = refl
list_any-map p f (x ∷ xs) = ap (λ (b : Bool). p (f x) || b) (list_any-map p f xs)

pub sum_by-map : {X Y : Type 0} (g : Y → ℕ) (f : X → Y) (xs : List X) → sum_by g (map f xs) ≡ sum_by (λ x. g (f x)) xs
sum_by-map g f xs = fold-map (λ a y. a + g y) f 0 xs

pub count_by-map : {X Y : Type 0} (p : Y → Bool) (f : X → Y) (xs : List X) → count_by p (map f xs) ≡ count_by (λ x. p (f x)) xs
count_by-map p f xs = fold-map (λ a y. a + cond (p y) 1 0) f 0 xs

pub prefix_len-map : {X Y : Type 0} (p : Y → Bool) (f : X → Y) (xs : List X) → prefix_len p (map f xs) ≡ prefix_len (λ x. p (f x)) xs
prefix_len-map p f [] = refl
prefix_len-map p f (x ∷ xs) = ap (λ (n : ℕ). cond (p (f x)) (1 + n) 0) (prefix_len-map p f xs)

pub take_while-map : {X Y : Type 0} (p : Y → Bool) (f : X → Y) (xs : List X) → take_while p (map f xs) ≡ map f (take_while (λ x. p (f x)) xs)
take_while-map p f xs =
    ap (λ (n : ℕ). take n (map f xs)) (prefix_len-map p f xs) ∙ take-map f (prefix_len (λ x. p (f x)) xs) xs

pub position_or_len-map : {X Y : Type 0} (p : Y → Bool) (f : X → Y) (xs : List X) → position_or_len p (map f xs) ≡ position_or_len (λ x. p (f x)) xs
position_or_len-map p f xs = prefix_len-map (λ y. not (p y)) f xs

pub position-map : {X Y : Type 0} (p : Y → Bool) (f : X → Y) (xs : List X) → position p (map f xs) ≡ position (λ x. p (f x)) xs
position-map p f xs =
    ap₂ (λ (n m : ℕ). cond (nat_lt n m) (Some n) None) (position_or_len-map p f xs) (length-map xs f)

pub option_map-map : {X Y Z : Type 0} (g : Y → Z) (f : X → Y) (o : Option X) → option_map g (option_map f o) ≡ option_map (λ x. g (f x)) o
option_map-map g f None = refl
option_map-map g f (Some x) = refl

pub find-map : {X Y : Type 0} (p : Y → Bool) (f : X → Y) (xs : List X) → find p (map f xs) ≡ option_map f (find (λ x. p (f x)) xs)
find-map p f [] = refl
find-map p f (x ∷ xs) =
    elim (p (f x)) as (λ b. cond b (Some (f x)) (find p (map f xs)) ≡ option_map f (cond b (Some x) (find (λ z. p (f z)) xs))) [ true ↦ refl | false ↦ find-map p f xs ]

pub insert-map : {X Y : Type 0} (f : X → Y) (xs : List X) (i : ℕ) (x : X) → insert (map f xs) i (f x) ≡ map f (insert xs i x)
insert-map f xs i x =
    ap₂ (λ s t. s ++ f x ∷ t) (take-map f i xs) (drop-map f i xs) ∙ sym (map-append f (take i xs) (x ∷ drop i xs))

pub remove-map : {X Y : Type 0} (f : X → Y) (xs : List X) (i : ℕ) → remove (map f xs) i ≡ map f (remove xs i)
remove-map f xs i =
    ap₂ (λ s t. s ++ t) (take-map f i xs) (drop-map f (suc i) xs) ∙ sym (map-append f (take i xs) (drop (suc i) xs))

pub map-at : {X Y : Type 0} (f : X → Y) (xs : List X) (i : ℕ) (x : X) → slice_get xs i ≡ Some x → slice_get (map f xs) i ≡ Some (f x)
map-at f xs i x at = slice_get-map f xs i ∙ ap (option_map f) at

pub map-reverse : {X Y : Type 0} (f : X → Y) (xs : List X) → map f (reverse xs) ≡ reverse (map f xs)
map-reverse f [] = refl
map-reverse f (x ∷ xs) =
    ap (λ t. map f t) (reverse-append (x ∷ []) xs) ∙ map-append f (reverse xs) (x ∷ []) ∙ ap (λ t. t ++ f x ∷ []) (map-reverse f xs)
    ∙ sym (reverse-append (f x ∷ []) (map f xs))

pub any-joined : {X Y : Type 0} (p : Y → Bool) (f : X → List Y) (xs : List X) → list_any p (flat_map f xs) ≡ list_any (λ x. list_any p (f x)) xs
any-joined p f [] = refl
any-joined p f (x ∷ xs) = list_any-append p (f x) (flat_map f xs) ∙ ap (λ b. list_any p (f x) || b) (any-joined p f xs)

-- ---- a value that is there, and lists without elements

pub some-of : {A : Type 0} (o : Option A) → is_some o ≡ true → (x : A) × (o ≡ Some x)
some-of (Some x) h = (x, refl)
some-of None h = cc

pub cons-none : {A : Type 0} (x : A) (xs : List A) → x ∷ xs ≡ [] → ⊥
cons-none x xs e = cc

pub append-none : {A : Type 0} (xs ys : List A) → xs ++ ys ≡ [] → ys ≡ []
append-none [] ys e = e
append-none (x ∷ xs) ys e = cc

pub at-index : {A : Type 0} (xs : List A) (i : ℕ) → i < length xs → (x : A) × (slice_get xs i ≡ Some x)
at-index xs i within = elim (slice_get_cases xs i).1 [
  | inl at ↦ (at.0, at.2)
  | inr past ↦ absurd (omega (arith, within, past.0))
]

-- the element that stands first, before the rest
pub in-front : {A : Type 0} (items rest : List A) (e : A) → slice_get items 0 ≡ Some e → rest ≡ drop 1 items → items ≡ e ∷ rest
in-front [] rest e at left = absurd (none-some e at)
in-front (x ∷ xs) rest e at left = ap (λ y. y ∷ xs) (same_Some x e at) ∙ ap (λ ys. e ∷ ys) (sym left)

-- ---- a list in which one element was replaced, and one that grew

pub slice_get_none : {A : Type 0} (xs : List A) (i : ℕ) → slice_get xs i ≡ None → length xs ≤ i
slice_get_none xs i none = elim (slice_get_cases xs i).1 [ inl here ↦ absurd (none-some here.0 (sym none ∙ here.2)) | inr past ↦ past.0 ]

pub at_set_same : {A : Type 0} (xs : List A) (i : ℕ) (a x : A) → slice_get (set xs i a) i ≡ Some x → x ≡ a
at_set_same xs i a x here =
    let within = slice_get_within (set xs i a) i x here in
    let size = length-set xs i a in
    sym (get_or_from_slice_get (set xs i a) i x x here) ∙ get_or-set_same xs i a x (omega (arith, within, size))

pub at_set_other : {A : Type 0} (xs : List A) (i j : ℕ) (a x : A) → j ≢ i → slice_get (set xs i a) j ≡ Some x → slice_get xs j ≡ Some x
at_set_other {A = A} xs i j a x other here =
    let within = slice_get_within (set xs i a) j x here in
    let size = length-set xs i a in
    slice_get-get_or xs j x (omega (arith, within, size))
    ∙ ap (λ (z : A). Some z) (sym (get_or-set_other xs i j a x other) ∙ get_or_from_slice_get (set xs i a) j x x here)

-- an element of a list that grew by one is one of those before, or the last
pub slice_get-push : {A : Type 0} (xs : List A) (x y : A) (i : ℕ) → slice_get (xs ++ x ∷ []) i ≡ Some y → (slice_get xs i ≡ Some y) ⊎ ((i ≡ length xs) × (y ≡ x))
slice_get-push [] x y zero here = let same : y ≡ x = cc in inr (refl, same)
slice_get-push [] x y (suc i) here = cc
slice_get-push (z ∷ zs) x y zero here = inl here
slice_get-push (z ∷ zs) x y (suc i) here = elim (slice_get-push zs x y i here) [
  | inl inside ↦ inl inside
  | inr last ↦ inr (ap (λ (n : ℕ). suc n) last.0, last.1)
]

-- ---- each of a list

pub All-at : {A : Type 0} (P : A → Type 0) (xs : List A) (i : ℕ) (x : A) → All P xs → slice_get xs i ≡ Some x → P x
All-at P xs i x all here =
    subst P (get_or_from_slice_get xs i x x here) (All-get_or P xs i x (slice_get_within xs i x here) all)

pub All-from-at : {A : Type 0} (P : A → Type 0) (xs : List A) → ((i : ℕ) (x : A) → slice_get xs i ≡ Some x → P x) → All P xs
All-from-at P [] each = All-nil P
All-from-at P (x ∷ xs) each = All-from_get_or P (x ∷ xs) x (λ i within. each i (get_or (x ∷ xs) i x) (slice_get-get_or (x ∷ xs) i x within))

pub All-from_list_all : {X : Type 0} (p : X → Bool) (xs : List X) → list_all p xs ≡ true → All (λ x. p x ≡ true) xs
All-from_list_all p [] all = All-nil (λ x. p x ≡ true)
All-from_list_all p (x ∷ xs) all =
    let parts = and_parts (p x) (list_all p xs) all in
    All-cons (λ y. p y ≡ true) x xs parts.0 (All-from_list_all p xs parts.1)

pub list_all_push : {X : Type 0} (p : X → Bool) (xs : List X) (x : X) → list_all p (xs ++ x ∷ []) ≡ (list_all p xs && p x)
list_all_push p [] x = elim (p x) as (λ b. (b && true) ≡ b) [ true ↦ refl | false ↦ refl ]
list_all_push p (y ∷ xs) x =
    let tail = list_all_push p xs x in
    elim (p y) as (λ b. (b && list_all p (xs ++ x ∷ [])) ≡ ((b && list_all p xs) && p x)) [ true ↦ tail | false ↦ refl ]

pub All-reverse : {X : Type 0} (P : X → Type 0) (xs : List X) → All P xs → All P (reverse xs)
All-reverse P [] h = h
All-reverse P (x ∷ xs) h =
    subst (All P) (sym (reverse-append (x ∷ []) xs)) (All-push P (reverse xs) x (All-reverse P xs (All-tail P x xs h)) (All-head P x xs h))

-- ---- two lists, place by place

-- one more of each
pub zip_push : {A B : Type 0} (R : A → B → Type 0) (xs : List A) (ys : List B) (x : A) (y : B) → AllZip R xs ys → R x y → AllZip R (xs ++ x ∷ []) (ys ++ y ∷ [])
zip_push R [] [] x y all one = (one, tt)
zip_push R (a ∷ xs) (b ∷ ys) x y all one = (all.0, zip_push R xs ys x y all.1 one)
zip_push R [] (b ∷ ys) x y all one = elim all [ ]
zip_push R (a ∷ xs) [] x y all one = elim all [ ]

-- what stands at the same place
pub zip_through : {A B C : Type 0} (R : B → C → Type 0) (Q : A → C → Type 0) (xs : List A) (ys : List B) (zs : List C) → length ys ≡ length xs
    → ((k : ℕ) (x : A) (y : B) → slice_get xs k ≡ Some x → slice_get ys k ≡ Some y → (z : C) → R y z → Q x z) → AllZip R ys zs → AllZip Q xs zs
zip_through R Q [] [] [] same leads all = tt
zip_through R Q [] [] (z ∷ zs) same leads all = elim all [ ]
zip_through R Q (x ∷ xs) (y ∷ ys) [] same leads all = elim all [ ]
zip_through R Q [] (y ∷ ys) zs same leads all = let none : ⊥ = omega (arith, same) in elim none [ ]
zip_through R Q (x ∷ xs) [] zs same leads all = let none : ⊥ = omega (arith, same) in elim none [ ]
zip_through R Q (x ∷ xs) (y ∷ ys) (z ∷ zs) same leads all = (leads 0 x y refl refl z all.0, zip_through R Q xs ys zs (omega (arith, same)) (λ k. leads (suc k)) all.1)

-- ---- prefixes

pub prefix-trans : {A : Type 0} (xs ys zs : List A) → IsPrefixOf xs ys → IsPrefixOf ys zs → IsPrefixOf xs zs
prefix-trans {A = A} xs ys zs p q = (p.0 ++ q.0, sym (append_assoc xs p.0 q.0) ∙ ap (λ (l : List A). l ++ q.0) p.1 ∙ q.1)

pub take-prefix_whole : {A : Type 0} (n : ℕ) (xs : List A) → IsPrefixOf (take n xs) xs
take-prefix_whole n xs = (drop n xs, take-append-drop n xs)

-- ---- a first element, and a list that is read from its front

pub head-is : {A : Type 0} (x y : A) (xs ys : List A) → x ∷ xs ≡ y ∷ ys → x ≡ y
head-is x y xs ys e = cc

pub tail-is : {A : Type 0} (x y : A) (xs ys : List A) → x ∷ xs ≡ y ∷ ys → xs ≡ ys
tail-is x y xs ys e = cc

pub slice_get-behind : {A : Type 0} (xs rest : List A) (x : A) → slice_get (xs ++ x ∷ rest) (length xs) ≡ Some x
slice_get-behind [] rest x = refl
slice_get-behind (y ∷ ys) rest x = slice_get-behind ys rest x

-- The front is what was made, as it is seen, and the rest is left. One more is made.
pub seen-more : {A B : Type 0} (view : B → A) (all left rest : List A) (made after : List B) (x : A) (new : B) → map view made ++ left ≡ all → left ≡ x ∷ rest → after ≡ made ++ new ∷ [] → view new ≡ x → map view after ++ rest ≡ all
seen-more {A = A} {B = B} view all left rest made after x new was front grown is =
    ap (λ (l : List B). map view l ++ rest) grown
    ∙ ap (λ (l : List A). l ++ rest) (map_push view made new)
    ∙ append_assoc (map view made) (view new ∷ []) rest
    ∙ ap (λ (y : A). map view made ++ y ∷ rest) is
    ∙ ap (λ (l : List A). map view made ++ l) (sym front) ∙ was
