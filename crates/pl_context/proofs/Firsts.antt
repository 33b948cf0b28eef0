-- The first element of a list that passes a test: found, taken out, and given another value.
use Rattle.std.specs.Prelude.{◌⊎◌}
use Rattle.std.specs.Map.{remove_entry, set_value}
use Rattle.std.proofs.Common.{◌≡◌, ℕ, zero, suc, ◌+◌, ◌<◌, Bool, true, false, cond, not, ltb, Some, None, List, [], ◌∷◌, length, get_or, drop, set, refl, sym, ap, ◌∙◌, subst, arith, inl, inr}
use Rattle.std.specs.List.{All, AllPairs, filter, find, position, position_or_len, remove, slice_get}
use Rattle.std.proofs.lemmas.List.Quantifiers.{position-Some}
use Rattle.std.proofs.lemmas.List.Folds.{find_at}
use Rattle.std.proofs.lemmas.List.Elements.{All-head, All-tail}
use Rattle.std.proofs.lemmas.Option.{slice_get_within, slice_get_cases, none-some, same_Some, cond_some}
use Rattle.std.proofs.lemmas.Bool.{cases_Bool, cond-true, cond-false, ltb-true, lt-ltb, le-ltb, true≢false, false_from_ne_true}

-- the element at i passes, and none before it does
pub record IsFirst {X : Type 0} (p : X → Bool) (xs : List X) (i : ℕ) : Type 0 where
  pub within : i < length xs
  pub passes : (d : X) → p (get_or xs i d) ≡ true
  pub before : (k : ℕ) (d : X) → k < i → p (get_or xs k d) ≡ false

module _ {X : Type 0} (p : X → Bool) where
  pub find-filter : (xs : List X) → find p xs ≡ slice_get (filter p xs) 0
  find-filter [] = refl
  find-filter (x ∷ xs) =
      elim (p x) as (λ b. cond b (Some x) (find p xs) ≡ slice_get (cond b (x ∷ filter p xs) (filter p xs)) 0) [ true ↦ refl | false ↦ find-filter xs ]

  pub position-first : (xs : List X) (i : ℕ) → position p xs ≡ Some i → IsFirst p xs i
  position-first xs i found = record {
    within =
        let hit = cond_some (ltb (position_or_len p xs) (length xs)) (position_or_len p xs) i found in
        omega (arith, ltb-true (position_or_len p xs) (length xs) hit.0, hit.1);
    passes = λ d. (position-Some p xs i d found).1;
    before = λ k d below. (position-Some p xs i d found).2 k below;
  }

  abbrev next : (x : X) (xs : List X) (i : ℕ) → IsFirst p (x ∷ xs) (suc i) → IsFirst p xs i
  next x xs i f = record {
    within = omega (arith, f.within);
    passes = λ d. f.passes d;
    before = λ k d below. f.before (suc k) d (omega (arith, below));
  }

  pub first-position_or_len : (xs : List X) (i : ℕ) → IsFirst p xs i → position_or_len p xs ≡ i
  first-position_or_len [] i f = absurd (omega (arith, f.within))
  first-position_or_len (x ∷ xs) zero f = ap (λ (b : Bool). cond (not b) (1 + position_or_len p xs) 0) (f.passes x)
  first-position_or_len (x ∷ xs) (suc i) f =
      ap (λ (b : Bool). cond (not b) (1 + position_or_len p xs) 0) (f.before 0 x (omega arith))
      ∙ (let rest = first-position_or_len xs i (next x xs i f) in omega (arith, rest))

  pub position-is : (xs : List X) (i : ℕ) → IsFirst p xs i → position p xs ≡ Some i
  position-is xs i f =
      ap (λ (n : ℕ). cond (ltb n (length xs)) (Some n) None) (first-position_or_len xs i f)
      ∙ cond-true (ltb i (length xs)) (Some i) None (lt-ltb i (length xs) f.within)

  pub find-first : (xs : List X) (i : ℕ) → IsFirst p xs i → find p xs ≡ slice_get xs i
  find-first xs i f = find_at p xs ∙ ap (slice_get xs) (first-position_or_len xs i f)

  -- without its first element that passes
  pub filter-remove_first : (xs : List X) (i : ℕ) → IsFirst p xs i → filter p (remove xs i) ≡ drop 1 (filter p xs)
  filter-remove_first [] i f = absurd (omega (arith, f.within))
  filter-remove_first (x ∷ xs) zero f = sym (ap (λ (b : Bool). drop 1 (cond b (x ∷ filter p xs) (filter p xs))) (f.passes x))
  filter-remove_first (x ∷ xs) (suc i) f =
      let off = f.before 0 x (omega arith) in
      ap (λ (b : Bool). cond b (x ∷ filter p (remove xs i)) (filter p (remove xs i))) off
      ∙ filter-remove_first xs i (next x xs i f)
      ∙ sym (ap (λ (b : Bool). drop 1 (cond b (x ∷ filter p xs) (filter p xs))) off)

  -- without one that does not pass
  pub filter-remove_other : (xs : List X) (i : ℕ) → i < length xs → ((d : X) → p (get_or xs i d) ≡ false) → filter p (remove xs i) ≡ filter p xs
  filter-remove_other [] i within off = absurd (omega (arith, within))
  filter-remove_other (x ∷ xs) zero within off = sym (ap (λ (b : Bool). cond b (x ∷ filter p xs) (filter p xs)) (off x))
  filter-remove_other (x ∷ xs) (suc i) within off =
      ap (λ (l : List X). cond (p x) (x ∷ l) l) (filter-remove_other xs i (omega (arith, within)) off)

  -- nothing passes
  pub find-None-position : (xs : List X) → find p xs ≡ None → position p xs ≡ None
  find-None-position xs none = elim (slice_get_cases xs (position_or_len p xs)).1 [
    | inl here ↦ absurd (none-some here.0 (sym none ∙ find_at p xs ∙ here.2))
    | inr past ↦ cond-false (ltb (position_or_len p xs) (length xs)) (Some (position_or_len p xs)) None (le-ltb (position_or_len p xs) (length xs) past.0)
  ]

  -- one that passes is found
  pub find-Some-position : (xs : List X) (y : X) → find p xs ≡ Some y → (i : ℕ) × (position p xs ≡ Some i) × (slice_get xs i ≡ Some y)
  find-Some-position xs y found =
      let n = position_or_len p xs in
      let at = sym (find_at p xs) ∙ found in
      (n, cond-true (ltb n (length xs)) (Some n) None (lt-ltb n (length xs) (slice_get_within xs n y at)), at)

  -- what holds of all holds of the one that is found
  pub find-All : (P : X → Type 0) (xs : List X) (y : X) → All P xs → find p xs ≡ Some y → P y
  find-All P [] y all found = absurd (none-some y found)
  find-All P (x ∷ xs) y all found = elim (cases_Bool (p x)) [
    | inl passes ↦ subst P (same_Some x y (sym (cond-true (p x) (Some x) (find p xs) passes) ∙ found)) (All-head P x xs all)
    | inr fails ↦ find-All P xs y (All-tail P x xs all) (sym (cond-false (p x) (Some x) (find p xs) fails) ∙ found)
  ]

  -- the one that is found passes
  pub find-passes : (xs : List X) (x : X) → find p xs ≡ Some x → p x ≡ true
  find-passes [] x found = absurd (none-some x found)
  find-passes (y ∷ ys) x found = elim (cases_Bool (p y)) [
    | inl passes ↦ ap p (sym (same_Some y x (sym (cond-true (p y) (Some y) (find p ys) passes) ∙ found))) ∙ passes
    | inr fails ↦ find-passes ys x (sym (cond-false (p y) (Some y) (find p ys) fails) ∙ found)
  ]

-- ---- two tests, of which one passes all that the other does

module _ {X : Type 0} (p q : X → Bool) (wider : (y : X) → q y ≡ true → p y ≡ true) where
  fails-both : (y : X) → p y ≡ false → q y ≡ false
  fails-both y fails = false_from_ne_true (q y) (λ on. true≢false (sym (wider y on) ∙ fails))

  -- what the wider one finds, and the other passes, the other finds
  pub find-narrow : (xs : List X) (x : X) → find p xs ≡ Some x → q x ≡ true → find q xs ≡ Some x
  find-narrow [] x found on = found
  find-narrow (y ∷ ys) x found on = elim (cases_Bool (p y)) [
    | inl passes ↦
        let same = same_Some y x (sym (cond-true (p y) (Some y) (find p ys) passes) ∙ found) in
        cond-true (q y) (Some y) (find q ys) (ap q same ∙ on) ∙ ap (λ (z : X). Some z) same
    | inr fails ↦
        cond-false (q y) (Some y) (find q ys) (fails-both y fails) ∙ find-narrow ys x (sym (cond-false (p y) (Some y) (find p ys) fails) ∙ found) on
  ]

  -- where the other finds one, the wider one finds the same or an older, in a list by age
  pub find-older : (age : X → ℕ) (xs : List X) → AllPairs (λ a b. age a < age b) xs → (z : X) → find q xs ≡ Some z
      → (x : X) × (find p xs ≡ Some x) × ((x ≡ z) ⊎ (age x < age z))
  find-older age [] order z found = absurd (none-some z found)
  find-older age (y ∷ ys) order z found = elim (cases_Bool (p y)) [
    | inl passes ↦ (
      y,
      cond-true (p y) (Some y) (find p ys) passes,
      elim (cases_Bool (q y)) [
        | inl on ↦ inl (same_Some y z (sym (cond-true (q y) (Some y) (find q ys) on) ∙ found))
        | inr off ↦
            inr (find-All q (λ (x : X). age y < age x) ys z (λ k d below. order 0 (suc k) d (omega arith) (omega (arith, below)))
            (sym (cond-false (q y) (Some y) (find q ys) off) ∙ found))
      ],
    )
    | inr fails ↦
        let rest = find-older age ys (λ i j d before below. order (suc i) (suc j) d (omega (arith, before)) (omega (arith, below))) z (sym (cond-false (q y) (Some y) (find q ys) (fails-both y fails)) ∙ found) in
        (rest.0, cond-false (p y) (Some y) (find p ys) fails ∙ rest.1, rest.2)
  ]

-- an entry, taken out by the place of the first with its key
pub remove-entry : {K V : Type 0} (p : K → Bool) (es : List (K × V)) (i : ℕ) → IsFirst (λ e. p e.0) es i → remove es i ≡ remove_entry p es
remove-entry p [] i f = absurd (omega (arith, f.within))
remove-entry p (e ∷ es) zero f = sym (cond-true (p e.0) es (e ∷ remove_entry p es) (f.passes e))
remove-entry {K} {V} p (e ∷ es) (suc i) f =
    ap (λ (l : List (K × V)). e ∷ l) (remove-entry p es i (next (λ e. p e.0) e es i f))
    ∙ sym (cond-false (p e.0) es (e ∷ remove_entry p es) (f.before 0 e (omega arith)))

-- another value for an entry, at the place of the first with its key
pub set-entry : {K V : Type 0} (p : K → Bool) (es : List (K × V)) (i : ℕ) (was : K × V) (value : V) → IsFirst (λ e. p e.0) es i → slice_get es i ≡ Some was
    → set es i (was.0, value) ≡ set_value p es value
set-entry p [] i was value f at = absurd (omega (arith, f.within))
set-entry {K} {V} p (e ∷ es) zero was value f at =
    ap (λ (x : K × V). (x.0, value) ∷ es) (sym (same_Some e was at))
    ∙ sym (cond-true (p e.0) ((e.0, value) ∷ es) (e ∷ set_value p es value) (f.passes e))
set-entry {K} {V} p (e ∷ es) (suc i) was value f at =
    ap (λ (l : List (K × V)). e ∷ l) (set-entry p es i was value (next (λ e. p e.0) e es i f) at)
    ∙ sym (cond-false (p e.0) ((e.0, value) ∷ es) (e ∷ set_value p es value) (f.before 0 e (omega arith)))
