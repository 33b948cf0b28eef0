-- The targets for which something waits: what a change of one does to their list, and a walk along it.
use Rattle.std.proofs.Common.{◌≡◌, ◌≢◌, ℕ, ◌+◌, ◌<◌, ◌≤◌, Bool, true, false, cond, ltb, Option, Some, None, List, [], ◌∷◌, length, drop, get_or, set, refl, sym, ap, ◌∙◌, subst, arith, inl, inr}
use Rattle.std.specs.Prelude.{nat_eq, IsSome}
use Rattle.std.specs.List.{All, IsDistinct, find, insert, position, remove, slice_get}
use Rattle.std.specs.List.Sorted.{IsNonDecreasingBy, IsPartitionPoint}
use Rattle.std.specs.Map.{keys_of, lookup, set_value, update}
use Rattle.std.specs.Option.{option_map, option_map_or}
use Rattle.std.specs.Cmp.{nat_eq_equiv}
use Rattle.std.proofs.lemmas.Bool.{cases_Bool, cases_eq, cases_lt, cond-true, cond-false, eqb-true, ltb-true, ltb-false}
use Rattle.std.proofs.lemmas.List.{drop_all, drop_more, get_or-map, get_or-set_other, length-set}
use Rattle.std.proofs.lemmas.Grind.{get_or-set_at}
use Rattle.std.proofs.lemmas.List.Elements.{All-nil, All-get_or, All-cons, All-tail, All-contains, All-map, All-from_recursion, recursion_from_All, All-weaker}
use Rattle.std.proofs.lemmas.List.Quantifiers.{all_pairs_remove}
use Rattle.std.proofs.lemmas.List.Sorted.{IsNonDecreasingBy-insert, IsPermutation-insert, IsPermutation-remove, IsPermutation-map, All-permutation}
use Rattle.std.proofs.lemmas.Map.{NonePasses, none_passes_from_lookup, lookup-insert, lookup-remove_entry, lookup-set_value, keys-set_value}
use Rattle.std.proofs.lemmas.Map.Entries.{length-keys_of}
use Rattle.std.proofs.lemmas.Map.Keys.{IsDistinct-cons, IsDistinct-tail, IsDistinct-IsPermutation}
use Rattle.std.proofs.lemmas.Map.Steps.{length-le_from_distinct_below}
use Rattle.std.proofs.lemmas.Map.Views.{Contains-from_any, exact_unsigned_eq}
use Rattle.std.proofs.lemmas.Option.{none-some, slice_get-get_or, get_or_from_slice_get}
use Rattle.pl_context.specs.Fronts.{IsFronts}
use Rattle.pl_context.proofs.Firsts.{IsFirst, position-first, find-first, find-Some-position, remove-entry, set-entry}

-- ---- a change of the list

abbrev Front : Type 0
Front = ℕ × ℕ

abbrev age : Front → ℕ
age front = front.1

pub fronts-none : (places : ℕ) → IsFronts [] places
unfolding IsDistinct
fronts-none places = record { order = λ i j d less below. absurd (omega (arith, below)); once = tt; there = All-nil (λ (t : ℕ). t < places) }

lookup-find : {K X : Type 0} (p : K → Bool) (es : List (K × X)) → lookup p es ≡ option_map (λ e. e.1) (find (λ e. p e.0) es)
lookup-find p [] = refl
lookup-find p (e ∷ es) =
    elim (p e.0) as (λ b. cond b (Some e.1) (lookup p es) ≡ option_map (λ e. e.1) (cond b (Some e) (find (λ e. p e.0) es))) [ true ↦ refl | false ↦ lookup-find p es ]

-- the same age again changes nothing
pub ages-kept : (ages : ℕ → Option ℕ) (target : ℕ) (value : Option ℕ) → ages target ≡ value → (y : ℕ) → ages y ≡ update nat_eq ages target value y
ages-kept ages target value is y = elim (cases_Bool (nat_eq target y)) [
  | inl same ↦ ap ages (sym (eqb-true target y same)) ∙ is ∙ sym (cond-true (nat_eq target y) value (ages y) same)
  | inr other ↦ sym (cond-false (nat_eq target y) value (ages y) other)
]

module _ (fronts : List Front) (places : ℕ) (target : ℕ) (is : IsFronts fronts places) where
  -- without a target that is not there
  pub fronts-kept : position (λ front. nat_eq target front.0) fronts ≡ None → lookup (nat_eq target) fronts ≡ None
  fronts-kept none = lookup-find (nat_eq target) fronts ∙ ap (option_map (λ (e : Front). e.1)) (by (find (λ front. nat_eq target front.0) fronts) refl)
    where
      by : (o : Option Front) → find (λ front. nat_eq target front.0) fronts ≡ o → find (λ front. nat_eq target front.0) fronts ≡ None
      by None e = e
      by (Some front) e =
          let at = find-Some-position (λ (front : Front). nat_eq target front.0) fronts front e in
          absurd (none-some at.0 (sym none ∙ at.1))

  -- without one that is
  module _ (i : ℕ) (at : position (λ front. nat_eq target front.0) fronts ≡ Some i) where
    first : IsFirst (λ (front : Front). nat_eq target front.0) fronts i
    first = position-first (λ (front : Front). nat_eq target front.0) fronts i at

    pub fronts-remove : IsFronts (remove fronts i) places
    fronts-remove =
        let d : Front = (0, 0) in
        let front = get_or fronts i d in
        let moved = IsPermutation-map (λ (f : Front). f.0) fronts (front ∷ remove fronts i) (IsPermutation-remove fronts i front first.within (sym (get_or_from_slice_get fronts i front front (slice_get-get_or fronts i d first.within)))) in
        let pairs = all_pairs_remove (λ (a b : Front). a.1 ≤ b.1) fronts i first.within (λ j k d less below. is.order j k d (omega (arith, less)) below) in
        record {
          order = λ j k d less below. elim (cases_lt j k) [
            | inl before ↦ pairs j k d before below
            | inr behind ↦
                let same : j ≡ k = omega (arith, less, behind) in
                let ages = ap (λ (n : ℕ). age (get_or (remove fronts i) n d)) same in
                omega (arith, ages)
          ];
          once = IsDistinct-tail nat_eq front.0 (keys_of (remove fronts i)) (IsDistinct-IsPermutation nat_eq nat_eq_equiv.symm (keys_of fronts) (front.0 ∷ keys_of (remove fronts i)) moved is.once);
          there = All-tail (λ (t : ℕ). t < places) front.0 (keys_of (remove fronts i)) (All-permutation (λ (t : ℕ). t < places) (keys_of fronts) (front.0 ∷ keys_of (remove fronts i)) moved is.there);
        }

    pub ages-remove : (y : ℕ) → lookup (nat_eq y) (remove fronts i) ≡ update nat_eq (λ y. lookup (nat_eq y) fronts) target None y
    ages-remove y =
        ap (lookup (nat_eq y)) (remove-entry (nat_eq target) fronts i first)
        ∙ lookup-remove_entry nat_eq_equiv (nat_eq target) (λ x y same. nat_eq_equiv.congr target x y same) y fronts is.once

    -- with a greater age for it, below that of the next
    module _ (was : Front) (here : slice_get fronts i ≡ Some was) (value : ℕ) (older : was.1 < value) (next : option_map_or (λ front. ltb value front.1) (slice_get fronts (i + 1)) true ≡ true) where
      renewed : List Front
      renewed = set fronts i (was.0, value)

      by-key : renewed ≡ set_value (nat_eq target) fronts value
      unfolding renewed
      by-key = set-entry (nat_eq target) fronts i was value first here

      same-keys : keys_of fronts ≡ keys_of renewed
      same-keys = sym (ap keys_of by-key ∙ keys-set_value (nat_eq target) fronts value)

      age-here : (j : ℕ) (d : Front) → j ≡ i → age (get_or renewed j d) ≡ value
      unfolding renewed
      age-here j d same = ap age (get_or-set_at fronts i j (was.0, value) d same first.within)

      age-there : (j : ℕ) (d : Front) → j ≢ i → age (get_or renewed j d) ≡ age (get_or fronts j d)
      unfolding renewed
      age-there j d other = ap age (get_or-set_other fronts i j (was.0, value) d other)

      age-was : (d : Front) → age (get_or fronts i d) < value
      age-was d = let same = ap age (get_or_from_slice_get fronts i was d here) in omega (arith, same, older)

      age-next : (d : Front) → i + 1 < length fronts → value < age (get_or fronts (i + 1) d)
      age-next d more =
          ltb-true value (age (get_or fronts (i + 1) d))
          (sym (ap (λ (o : Option Front). option_map_or (λ front. ltb value front.1) o true) (slice_get-get_or fronts (i + 1) d more)) ∙ next)

      renewed-order : IsNonDecreasingBy age renewed
      unfolding renewed
      renewed-order j k d less below =
          let within : k < length fronts = omega (arith, below, length-set fronts i (was.0, value)) in
          elim (cases_eq j i) [
            | inl left ↦ elim (cases_eq k i) [
              | inl right ↦ omega (arith, age-here j d left, age-here k d right)
              | inr later ↦
                  let after = is.order (i + 1) k d (omega (arith, left, less, later)) within in
                  omega (arith, age-here j d left, age-there k d later, after, age-next d (omega (arith, left, less, later, within)))
            ]
            | inr before ↦ elim (cases_eq k i) [
              | inl right ↦
                  let sorted = is.order j i d (omega (arith, less, right)) (omega (arith, within, right)) in
                  omega (arith, age-there j d before, age-here k d right, sorted, age-was d)
              | inr other ↦ let sorted = is.order j k d less within in omega (arith, age-there j d before, age-there k d other, sorted)
            ]
          ]

      pub fronts-renew : IsFronts (set fronts i (was.0, value)) places
      unfolding renewed
      fronts-renew = record {
        order = renewed-order;
        once = subst (λ (l : List ℕ). IsDistinct nat_eq l) same-keys is.once;
        there = subst (λ (l : List ℕ). All (λ t. t < places) l) same-keys is.there;
      }

      pub ages-renew : (y : ℕ) → lookup (nat_eq y) (set fronts i (was.0, value)) ≡ update nat_eq (λ y. lookup (nat_eq y) fronts) target (Some value) y
      unfolding renewed
      ages-renew y =
          let found = lookup-find (nat_eq target) fronts ∙ ap (option_map (λ (e : Front). e.1)) (find-first (λ (front : Front). nat_eq target front.0) fronts i first ∙ here) in
          ap (lookup (nat_eq y)) by-key
          ∙ lookup-set_value nat_eq_equiv (nat_eq target) (λ x y same. nat_eq_equiv.congr target x y same) y value fronts (subst (λ (o : Option ℕ). IsSome o) (sym found) refl)

  -- with one more
  module _ (new : lookup (nat_eq target) fronts ≡ None) (there : target < places) where
    none : NonePasses (nat_eq target) fronts
    none = none_passes_from_lookup (nat_eq target) fronts new

    once-more : IsDistinct nat_eq (target ∷ keys_of fronts)
    once-more =
        let apart = All-from_recursion (λ (f : Front). nat_eq target f.0 ≡ false) fronts none in
        IsDistinct-cons nat_eq target (keys_of fronts) (recursion_from_All (λ (y : ℕ). nat_eq target y ≡ false) (keys_of fronts) (All-map (λ (y : ℕ). nat_eq target y ≡ false) (λ (f : Front). f.0) fronts apart)) is.once

    there-more : All (λ t. t < places) (target ∷ keys_of fronts)
    there-more = All-cons (λ (t : ℕ). t < places) target (keys_of fronts) there is.there

    -- there is room for it
    pub fronts-room : length fronts < places
    fronts-room =
        let few = length-le_from_distinct_below (target ∷ keys_of fronts) places once-more
        (λ q h. All-contains (λ (t : ℕ). t < places) (target ∷ keys_of fronts) q there-more (Contains-from_any exact_unsigned_eq q (target ∷ keys_of fronts) h)) in
        omega (arith, few, length-keys_of fronts)

    module _ (value i after : ℕ) (within : i ≤ length fronts) (point : IsPartitionPoint (λ f. ltb f.1 value ≡ true) (λ f. ltb f.1 value ≡ false) fronts i) (more : places ≤ after) where
      pub fronts-insert : IsFronts (insert fronts i (target, value)) after
      fronts-insert =
          let all = insert fronts i (target, value) in
          let moved = IsPermutation-map (λ (f : Front). f.0) ((target, value) ∷ fronts) all (IsPermutation-insert fronts i (target, value)) in
          record {
            order = IsNonDecreasingBy-insert age fronts i (target, value) is.order within
                (λ k d below. let less = ltb-true (age (get_or fronts k d)) value (point.0 k d (omega arith) below) in omega (arith, less))
                (λ k d behind below. ltb-false (age (get_or fronts k d)) value (point.1 k d behind below));
            once = IsDistinct-IsPermutation nat_eq nat_eq_equiv.symm (target ∷ keys_of fronts) (keys_of all) moved once-more;
            there = All-weaker (λ (t : ℕ). t < places) (λ t. t < after) (λ t below. omega (arith, below, more)) (keys_of all)
                (All-permutation (λ (t : ℕ). t < places) (target ∷ keys_of fronts) (keys_of all) moved there-more);
          }

    pub ages-insert : (value i y : ℕ) → lookup (nat_eq y) (insert fronts i (target, value)) ≡ update nat_eq (λ y. lookup (nat_eq y) fronts) target (Some value) y
    ages-insert value i y = lookup-insert nat_eq_equiv target value y fronts i none

-- ---- along the list

pub keys-past : (ages items : List Front) → items ≡ ages → (i : ℕ) → length items ≤ i → drop i (keys_of ages) ≡ []
keys-past ages items is i past =
    let long = length-keys_of ages in
    let same = ap (λ (l : List Front). length l) is in
    drop_all i (keys_of ages) (omega (arith, past, long, same))

module _ (ages items : List Front) (is : items ≡ ages) (i : ℕ) (within : i < length items) where
  pub target-at : get_or (keys_of ages) i 0 ≡ (get_or items i (0, 0)).0
  target-at =
      ap (λ (l : List Front). get_or (keys_of l) i 0) (sym is) ∙ get_or-map (λ (f : Front). f.0) items i (0, 0) 0 within

  within-keys : i < length (keys_of ages)
  within-keys = let long = length-keys_of ages in let same = ap (λ (l : List Front). length l) is in omega (arith, within, long, same)

  -- what holds of all targets holds of this one
  pub All-targets : (P : ℕ → Type 0) → All P (keys_of ages) → P (get_or items i (0, 0)).0
  All-targets P all = subst P target-at (All-get_or P (keys_of ages) i 0 within-keys all)

  -- a look at one more, by a test that answers so
  pub find-next : (opens : ℕ → Bool) (P : ℕ → Bool → Type 0) → All (λ target. (answer : Bool) → P target answer → answer ≡ opens target) (keys_of ages)
      → (b answer : Bool) → P (get_or items i (0, 0)).0 answer → answer ≡ b
      → find opens (drop i (keys_of ages)) ≡ cond b (Some (get_or items i (0, 0)).0) (find opens (drop (i + 1) (keys_of ages)))
  find-next opens P answers b answer said is_b =
      let target = (get_or items i (0, 0)).0 in
      let known = sym (All-targets (λ (t : ℕ). (answer : Bool) → P t answer → answer ≡ opens t) answers answer said) ∙ is_b in
      ap (find opens) (drop_more (keys_of ages) i 0 within-keys ∙ ap (λ (t : ℕ). t ∷ drop (i + 1) (keys_of ages)) target-at)
      ∙ ap (λ (o : Bool). cond o (Some target) (find opens (drop (i + 1) (keys_of ages)))) known
