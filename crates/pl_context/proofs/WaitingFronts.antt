-- The list of targets for which something waits, beside the list of all that waits: what a change does to it, and that its
-- first open target is that of the oldest envelope for an open one.
use Rattle.std.proofs.Common.{◌≡◌, ℕ, suc, ◌<◌, ◌≤◌, Bool, true, false, eqb, Option, Some, None, List, [], ◌∷◌, ◌++◌, length, set, refl, sym, ap, ◌∙◌, subst, arith, inl, inr}
use Rattle.std.specs.Prelude.{nat_eq, IsSome, IfSome}
use Rattle.std.specs.List.{All, AllPairs, find, slice_get}
use Rattle.std.specs.List.Sorted.{IsNonDecreasingBy}
use Rattle.std.specs.Cmp.{nat_eq_equiv}
use Rattle.std.specs.Map.{keys_of, lookup, update}
use Rattle.std.specs.Option.{option_map, option_map_or}
use Rattle.std.proofs.Math.Dec.{eqb-suc-zero}
use Rattle.std.proofs.lemmas.Bool.{cases_Bool, cases_eq, cond-true, cond-false, eq-eqb, eqb-true, true≢false, false_from_ne_true}
use Rattle.std.proofs.lemmas.List.{length-set, length-map}
use Rattle.std.proofs.lemmas.Map.{update_here, update_apart}
use Rattle.std.proofs.lemmas.Map.Views.{All-keys_from_lookup}
use Rattle.std.proofs.lemmas.Map.Entries.{lookup_tail, All-lookup}
use Rattle.std.proofs.lemmas.Option.{none-some, same_Some, slice_get_within}
use Rattle.pl_event.specs.declared.envelopes.Envelope.{Envelope}
use Rattle.pl_event.proofs.Lists.{All-at, find-map, option_map-map}
use Rattle.pl_context.specs.declared.waiting.Stamp.{Stamp}
use Rattle.pl_context.specs.Backlogs.{BacklogView}
use Rattle.pl_context.specs.Fronts.{FrontsView, age_for}
use Rattle.pl_context.specs.WaitingViews.{WaitingView, Entry, Aged, is_aged_for, Holds, front_age, AreFronts}
use Rattle.pl_context.proofs.FrontLemmas.{ages-kept}
use Rattle.pl_context.proofs.Firsts.{find-passes, find-narrow, find-older}
use Rattle.pl_context.proofs.WaitingLemmas.{entry_of, front-age}
use Rattle.pl_context.proofs.WaitingCalls.{at-set_here, at-set_there, none-past}

-- what comes behind a front leaves it the front
pub front_age-more : {A : Type 0} (before after : BacklogView (Stamp A)) (more : List (Envelope × Stamp A)) → false ≡ eqb (length before.items) 0
    → after.items ≡ before.items ++ more → front_age after ≡ front_age before
front_age-more {A} before after more some items = ap (option_map (λ entry. entry.1.age)) (ap (λ (l : List (Envelope × Stamp A)). slice_get l 0) items ∙ by before.items some)
  where
    by : (l : List (Envelope × Stamp A)) → false ≡ eqb (length l) 0 → slice_get (l ++ more) 0 ≡ slice_get l 0
    by [] some = absurd (true≢false (sym some))
    by (x ∷ xs) some = refl

-- ---- the targets of a list that is kept by target

module _ {A : Type 0} (targets : List (BacklogView (Stamp A))) where
  pub front-noted : (fronts : FrontsView) → AreFronts fronts targets → (target : ℕ) (b : BacklogView (Stamp A)) → slice_get targets target ≡ Some b → age_for fronts target ≡ front_age b
  front-noted fronts is target b at = is.ages target ∙ ap (λ (o : Option (BacklogView (Stamp A))). option_map_or front_age o None) at

  -- one of them was written, and its front noted
  pub fronts-set : (before after : FrontsView) (target : ℕ) (new : BacklogView (Stamp A)) (age : Option ℕ) → target < length targets → AreFronts before targets
      → age ≡ front_age new → ((y : ℕ) → age_for after y ≡ update nat_eq (age_for before) target age y) → before.places ≤ after.places
      → AreFronts after (set targets target new)
  fronts-set before after target new age within is noted ages places = record {
    places = let size = length-set targets target new in omega (arith, is.places, places, size);
    ages = λ y. elim (cases_eq y target) [
      | inl same ↦
          subst (λ (n : ℕ). age_for after n ≡ option_map_or front_age (slice_get (set targets target new) n) None) (sym same)
          (ages target ∙ update_here (age_for before) target age ∙ noted
          ∙ sym (ap (λ (o : Option (BacklogView (Stamp A))). option_map_or front_age o None) (at-set_here targets target new within)))
      | inr other ↦
          ages y ∙ update_apart (age_for before) target age y other ∙ is.ages y
          ∙ sym (ap (λ (o : Option (BacklogView (Stamp A))). option_map_or front_age o None) (at-set_there targets target y new other))
    ];
  }

  -- one of them was written, and its front is the same
  pub fronts-same : (fronts : FrontsView) (target : ℕ) (b new : BacklogView (Stamp A)) → slice_get targets target ≡ Some b → AreFronts fronts targets
      → front_age new ≡ front_age b → AreFronts fronts (set targets target new)
  fronts-same fronts target b new at is same =
      fronts-set fronts fronts target new (front_age b) (slice_get_within targets target b at) is (sym same)
      (ages-kept (age_for fronts) target (front_age b) (front-noted fronts is target b at)) (omega arith)

  -- none of them has anything
  pub fronts-empty : (fronts : FrontsView) → fronts.ages ≡ [] → length targets ≤ fronts.places → All (λ b. b.items ≡ []) targets → AreFronts fronts targets
  fronts-empty fronts none places empty = record {
    places = places;
    ages = λ y. ap (lookup (nat_eq y)) none ∙ by y (slice_get targets y) refl;
  }
    where
      by : (y : ℕ) (o : Option (BacklogView (Stamp A))) → slice_get targets y ≡ o → None ≡ option_map_or front_age (slice_get targets y) None
      by y None at = sym (ap (λ (o : Option (BacklogView (Stamp A))). option_map_or front_age o None) at)
      by y (Some b) at =
          sym (ap (λ (o : Option (BacklogView (Stamp A))). option_map_or front_age o None) at
          ∙ ap (λ (l : List (Envelope × Stamp A)). option_map (λ entry. entry.1.age) (slice_get l 0)) (All-at (λ (b : BacklogView (Stamp A)). b.items ≡ []) targets y b empty at))

  -- only targets that are there are noted
  pub fronts-there : (fronts : FrontsView) → AreFronts fronts targets → (P : ℕ → Type 0) → ((y : ℕ) → y < length targets → P y) → All P (keys_of fronts.ages)
  fronts-there fronts is P there = All-keys_from_lookup nat_eq_equiv P fronts.ages (λ y some. there y (by y (slice_get targets y) refl (subst (λ (o : Option ℕ). IsSome o) (is.ages y) some)))
    where
      by : (y : ℕ) (o : Option (BacklogView (Stamp A))) → slice_get targets y ≡ o → IsSome (option_map_or front_age o None) → y < length targets
      by y None at some = absurd (true≢false (sym some))
      by y (Some b) at some = slice_get_within targets y b at

-- ---- the first open one

-- the first of each target, in any order, and all of them in the order of their ages
module _ {X : Type 0} (to age : X → ℕ) (xs : List X) where
  abbrev goes_to : ℕ → X → Bool
  goes_to y x = eqb (to x) y

  -- there are none of the ones where there are none of the others
  pub empty-fronts : (fronts : List (ℕ × ℕ)) → ((y : ℕ) → lookup (nat_eq y) fronts ≡ option_map age (find (goes_to y) xs)) → eqb (length fronts) 0 ≡ eqb (length xs) 0
  empty-fronts fronts agree = by fronts xs refl refl
    where
      by : (fs : List (ℕ × ℕ)) (l : List X) → fronts ≡ fs → xs ≡ l → eqb (length fs) 0 ≡ eqb (length l) 0
      by [] [] none nothing = refl
      by (f ∷ fs) (x ∷ l) some more = eqb-suc-zero (length fs) ∙ sym (eqb-suc-zero (length l))
      by (f ∷ fs) [] some none =
          absurd (none-some f.1 (sym (ap (λ (l : List X). option_map age (find (goes_to f.0) l)) none) ∙ sym (agree f.0) ∙ ap (lookup (nat_eq f.0)) some
          ∙ cond-true (nat_eq f.0 f.0) (Some f.1) (lookup (nat_eq f.0) fs) (eq-eqb f.0 f.0 refl)))
      by [] (x ∷ l) none some =
          absurd (none-some (age x) (sym (ap (lookup (nat_eq (to x))) none) ∙ agree (to x) ∙ ap (λ (l : List X). option_map age (find (goes_to (to x)) l)) some
          ∙ ap (option_map age) (cond-true (goes_to (to x) x) (Some x) (find (goes_to (to x)) l) (eq-eqb (to x) (to x) refl))))

  module _ (opens : ℕ → Bool) (order : AllPairs (λ a b. age a < age b) xs) where
    abbrev is_open : X → Bool
    is_open x = opens (to x)

    abbrev Agree : List (ℕ × ℕ) → Type 0
    Agree fronts = (y : ℕ) → opens y ≡ true → lookup (nat_eq y) fronts ≡ option_map age (find (goes_to y) xs)

    wider : (y : ℕ) → opens y ≡ true → (x : X) → goes_to y x ≡ true → is_open x ≡ true
    wider y on x here = ap opens (eqb-true (to x) y here) ∙ on

    -- the oldest for an open target is the first of its target
    own-front : (fronts : List (ℕ × ℕ)) → Agree fronts → (x : X) → find is_open xs ≡ Some x → lookup (nat_eq (to x)) fronts ≡ Some (age x)
    own-front fronts agree x found =
        let on = find-passes is_open xs x found in
        agree (to x) on ∙ ap (option_map age) (find-narrow is_open (goes_to (to x)) (wider (to x) on) xs x found (eq-eqb (to x) (to x) refl))

    pub first-open : (fronts : List (ℕ × ℕ)) → IsNonDecreasingBy (λ f. f.1) fronts → Agree fronts → find opens (keys_of fronts) ≡ option_map to (find is_open xs)
    first-open [] sorted agree = by (find is_open xs) refl
      where
        by : (o : Option X) → find is_open xs ≡ o → None ≡ option_map to o
        by None none = refl
        by (Some x) found = absurd (none-some (age x) (own-front [] agree x found))
    first-open (f ∷ fs) sorted agree = elim (cases_Bool (opens f.0)) [
      | inl on ↦ cond-true (opens f.0) (Some f.0) (find opens (keys_of fs)) on ∙ sym (by on (find (goes_to f.0) xs) refl)
      | inr off ↦
          cond-false (opens f.0) (Some f.0) (find opens (keys_of fs)) off
          ∙ first-open fs (λ i j d before below. sorted (suc i) (suc j) d (omega (arith, before)) (omega (arith, below)))
          (λ y on. sym (lookup_tail (nat_eq y) f fs (false_from_ne_true (nat_eq y f.0) (λ t. true≢false (sym on ∙ ap opens (eqb-true y f.0 t) ∙ off)))) ∙ agree y on)
    ]
      where
        by : opens f.0 ≡ true → (o : Option X) → find (goes_to f.0) xs ≡ o → option_map to (find is_open xs) ≡ Some f.0
        by on None none =
            absurd (none-some f.1 (sym (ap (option_map age) none) ∙ sym (agree f.0 on) ∙ cond-true (nat_eq f.0 f.0) (Some f.1) (lookup (nat_eq f.0) fs) (eq-eqb f.0 f.0 refl)))
        by on (Some z) found =
            let same = same_Some f.1 (age z) (sym (cond-true (nat_eq f.0 f.0) (Some f.1) (lookup (nat_eq f.0) fs) (eq-eqb f.0 f.0 refl)) ∙ agree f.0 on ∙ ap (option_map age) found) in
            let first = find-older is_open (goes_to f.0) (wider f.0 on) age xs order z found in
            let least = All-lookup (λ (n : ℕ). f.1 ≤ n) (nat_eq (to first.0)) (f ∷ fs) (λ k d below. sorted 0 k d (omega arith) below) in
            let above = subst (λ (o : Option ℕ). IfSome o (λ n. f.1 ≤ n)) (own-front (f ∷ fs) agree first.0 first.1) least in
            ap (option_map to) first.1 ∙ ap (λ (n : ℕ). Some n) (elim first.2 [
              | inl is ↦ ap to is ∙ eqb-true (to z) f.0 (find-passes (goes_to f.0) xs z found)
              | inr older ↦ absurd (omega (arith, older, above, same))
            ])

-- ---- of what waits

module _ {A : Type 0} (w : WaitingView A) (fronts : FrontsView) (entries : List (Entry A)) (h : Holds w entries) (is : AreFronts fronts w.targets) where
  agree : (y : ℕ) → age_for fronts y ≡ option_map (λ (i : Aged A). i.age) (find (is_aged_for y) h.aged)
  agree y = is.ages y ∙ by (slice_get w.targets y) refl
    where
      by : (o : Option (BacklogView (Stamp A))) → slice_get w.targets y ≡ o → option_map_or front_age o None ≡ option_map (λ (i : Aged A). i.age) (find (is_aged_for y) h.aged)
      by None past = sym (ap (option_map (λ (i : Aged A). i.age)) (none-past w entries h y past))
      by (Some b) at = front-age w h.aged h.holds y b at

  pub fronts-none-wait : eqb (length fronts.ages) 0 ≡ eqb (length entries) 0
  fronts-none-wait =
      empty-fronts (λ (i : Aged A). i.entry.target) (λ i. i.age) h.aged fronts.ages agree
      ∙ ap (λ (n : ℕ). eqb n 0) (sym (ap (λ (l : List (Entry A)). length l) h.entries_are ∙ length-map h.aged entry_of))

  pub fronts-oldest : (opens : ℕ → Bool) → IsNonDecreasingBy (λ f. f.1) fronts.ages
      → find opens (keys_of fronts.ages) ≡ option_map (λ (e : Entry A). e.target) (find (λ e. opens e.target) entries)
  fronts-oldest opens sorted =
      first-open (λ (i : Aged A). i.entry.target) (λ i. i.age) h.aged opens h.holds.order fronts.ages sorted (λ y on. agree y)
      ∙ sym (ap (λ (l : List (Entry A)). option_map (λ e. e.target) (find (λ e. opens e.target) l)) h.entries_are
      ∙ ap (option_map (λ (e : Entry A). e.target)) (find-map (λ (e : Entry A). opens e.target) entry_of h.aged)
      ∙ option_map-map (λ (e : Entry A). e.target) entry_of (find (λ i. opens i.entry.target) h.aged))
