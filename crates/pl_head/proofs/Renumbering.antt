-- Writes that are counted from a later one.
use Rattle.std.proofs.Common.{◌≡◌, ℕ, zero, suc, ◌+◌, ◌-◌, ◌<◌, ◌≤◌, Bool, true, false, cond, nat_le, All, List, [], ◌∷◌, ◌++◌, length, map, take, drop, get_or, Option, Some, None, refl, sym, ap, subst, ◌∙◌, arith, inl, inr, zero-add, length-append, length-drop}
use Rattle.std.proofs.lemmas.Bool.{cases_lt, le-leb, lt-leb}
use Rattle.std.proofs.lemmas.Bool.Decides.{leb_tells}
use Rattle.std.proofs.lemmas.List.{length-map, get_or-drop, get_or-map, get_or_default, drop-drop, take_more, take-append-drop}
use Rattle.std.specs.List.Sorted.{IsStrictlyIncreasing}
use Rattle.pl_event.specs.declared.outcomes.Outcome.{Outcome}
use Rattle.pl_head.specs.declared.outbound_buffer.Entry.{Entry}
use Rattle.pl_head.specs.WaitingMessages.{entry_numbers, entries_size, first_number, renumbered}
use Rattle.pl_head.specs.Settling.{same_as, times, counted_at, settled_at, open_at, numbers_from, Account}
use Rattle.pl_head.proofs.Accounts.{same_as-same, account-within}
use Rattle.pl_head.proofs.WaitingSizes.{entries_size-cons}

-- ---- numbers from one on

pub numbers-append : (first : ℕ) (xs ys : List ℕ) → numbers_from first (xs ++ ys) ≡ numbers_from first xs ++ numbers_from first ys
numbers-append first [] ys = refl
numbers-append first (x ∷ xs) ys = rw (numbers-append first xs ys) (by (nat_le first x))
  where
    by : (b : Bool) → cond b ((x - first) ∷ (numbers_from first xs ++ numbers_from first ys)) (numbers_from first xs ++ numbers_from first ys)
        ≡ cond b ((x - first) ∷ numbers_from first xs) (numbers_from first xs) ++ numbers_from first ys
    by true = refl
    by false = refl

pub numbers-most : (first told : ℕ) (ns : List ℕ) → length (numbers_from first (take told ns)) ≤ length (numbers_from first ns)
numbers-most first told ns =
    let whole = ap (λ (xs : List ℕ). length (numbers_from first xs)) (take-append-drop told ns) in
    let parts = ap (λ (xs : List ℕ). length xs) (numbers-append first (take told ns) (drop told ns)) in
    omega (arith, whole, parts, length-append (numbers_from first (take told ns)) (numbers_from first (drop told ns)))

pub numbers-few : (first : ℕ) (ns : List ℕ) → length (numbers_from first ns) ≤ length ns
numbers-few first [] = omega arith
numbers-few first (n ∷ ns) = either (nat_le first n) (numbers-few first ns)
  where
    either : (b : Bool) → length (numbers_from first ns) ≤ length ns → length (cond b ((n - first) ∷ numbers_from first ns) (numbers_from first ns)) ≤ suc (length ns)
    either true rest = omega (arith, rest)
    either false rest = omega (arith, rest)

-- one number
pub one-from : (first n : ℕ) → first ≤ n → numbers_from first (n ∷ []) ≡ (n - first) ∷ []
one-from first n least = ap (λ (b : Bool). cond b ((n - first) ∷ []) []) (le-leb first n least)

pub one-below : (first n : ℕ) → n < first → numbers_from first (n ∷ []) ≡ []
one-below first n less = ap (λ (b : Bool). cond b ((n - first) ∷ []) []) (lt-leb first n less)

-- the number at a place of a list
pub one-more : (first : ℕ) (xs : List ℕ) (i d : ℕ) → i < length xs → numbers_from first (take (i + 1) xs) ≡ numbers_from first (take i xs) ++ numbers_from first (get_or xs i d ∷ [])
one-more first xs i d within = ap (λ (ns : List ℕ). numbers_from first ns) (take_more xs i d within) ∙ numbers-append first (take i xs) (get_or xs i d ∷ [])

-- two lists that are the same from a place on
module _ {X : Type 0} (xs ys : List X) (i : ℕ) (same : drop i xs ≡ drop i ys) where
  pub same-at : (d : X) → get_or xs i d ≡ get_or ys i d
  same-at d =
      let here : i ≡ i + 0 = omega arith in
      ap (λ (k : ℕ). get_or xs k d) here ∙ sym (get_or-drop i xs 0 d) ∙ ap (λ (zs : List X). get_or zs 0 d) same ∙ get_or-drop i ys 0 d ∙ ap (λ (k : ℕ). get_or ys k d) (sym here)

  pub same-behind : drop (i + 1) xs ≡ drop (i + 1) ys
  same-behind = sym (drop-drop 1 i xs) ∙ ap (λ (zs : List X). drop 1 zs) same ∙ drop-drop 1 i ys

same_as-apart : (n k : ℕ) → n < k → (same_as n k ≡ 0) × (same_as k n ≡ 0)
same_as-apart zero zero h = absurd (omega (arith, h))
same_as-apart zero (suc k) h = (refl, refl)
same_as-apart (suc n) zero h = absurd (omega (arith, h))
same_as-apart (suc n) (suc k) h = same_as-apart n k (omega (arith, h))

same_as-from : (first n k : ℕ) → first ≤ k → same_as n (k - first) ≡ same_as (first + n) k
same_as-from first n k le = elim (cases_lt n (k - first)) [
  | inl less ↦ (same_as-apart n (k - first) less).0 ∙ sym (same_as-apart (first + n) k (omega (arith, less, le))).0
  | inr most ↦ elim (cases_lt (k - first) n) [
    | inl more ↦ (same_as-apart (k - first) n more).1 ∙ sym (same_as-apart k (first + n) (omega (arith, more, le))).1
    | inr least ↦
        let here : k - first ≡ n = omega (arith, most, least) in
        let there : k ≡ first + n = omega (arith, here, le) in
        ap (λ (m : ℕ). same_as n m) here ∙ same_as-same n ∙ sym (ap (λ (m : ℕ). same_as (first + n) m) there ∙ same_as-same (first + n))
  ]
]

times-from : (first n : ℕ) (ks : List ℕ) → times n (numbers_from first ks) ≡ times (first + n) ks
times-from first n [] = refl
times-from first n (k ∷ ks) = elim (leb_tells first k) [
  | inl t ↦
      let rest = times-from first n ks in
      let here = same_as-from first n k t.1 in
      let kept : same_as n (k - first) + times n (numbers_from first ks) ≡ same_as (first + n) k + times (first + n) ks = omega (arith, rest, here) in
      ap (λ (b : Bool). times n (cond b ((k - first) ∷ numbers_from first ks) (numbers_from first ks))) t.0 ∙ kept
  | inr t ↦
      let rest = times-from first n ks in
      let none = (same_as-apart k (first + n) (omega (arith, t.1))).1 in
      let left : times n (numbers_from first ks) ≡ same_as (first + n) k + times (first + n) ks = omega (arith, rest, none) in
      ap (λ (b : Bool). times n (cond b ((k - first) ∷ numbers_from first ks) (numbers_from first ks))) t.0 ∙ left
]

-- ---- how many there are

length-cons : (first k : ℕ) (ks : List ℕ) → length (numbers_from first (k ∷ ks)) ≡ cond (nat_le first k) 1 0 + length (numbers_from first ks)
length-cons first k ks = either (nat_le first k)
  where
    either : (b : Bool) → length (cond b ((k - first) ∷ numbers_from first ks) (numbers_from first ks)) ≡ cond b 1 0 + length (numbers_from first ks)
    either true = omega arith
    either false = omega arith

one-step : (first k : ℕ) → cond (nat_le first k) 1 0 ≡ same_as first k + cond (nat_le (suc first) k) 1 0
one-step first k = elim (leb_tells first k) [
  | inl t ↦ elim (leb_tells (suc first) k) [
    | inl s ↦ rw (t.0, s.0, (same_as-apart first k (omega (arith, s.1))).0) refl
    | inr s ↦
        let same : k ≡ first = omega (arith, t.1, s.1) in
        rw (t.0, s.0, ap (λ (m : ℕ). same_as first m) same ∙ same_as-same first) refl
  ]
  | inr t ↦ elim (leb_tells (suc first) k) [
    | inl s ↦ absurd (omega (arith, t.1, s.1))
    | inr s ↦ rw (t.0, s.0, (same_as-apart k first t.1).1) refl
  ]
]

length-step : (first : ℕ) (ks : List ℕ) → length (numbers_from first ks) ≡ times first ks + length (numbers_from (suc first) ks)
length-step first [] = omega arith
length-step first (k ∷ ks) =
    let rest = length-step first ks in
    let here = one-step first k in
    let long = length-cons first k ks in
    let next = length-cons (suc first) k ks in
    omega (arith, rest, here, long, next)

length-whole : (ks : List ℕ) → length (numbers_from zero ks) ≡ length ks
length-whole [] = refl
length-whole (k ∷ ks) =
    let rest = length-whole ks in
    let one = ap {B = ℕ} (λ (b : Bool). cond b 1 0) (le-leb zero k (omega arith)) in
    omega (arith, length-cons zero k ks, one, rest)

-- where each number below is in one of two lists, once
length-both : (first : ℕ) (js ks : List ℕ) → ((n : ℕ) → n < first → times n js + times n ks ≡ 1)
    → length js + length ks ≡ first + (length (numbers_from first js) + length (numbers_from first ks))
length-both zero js ks each = omega (arith, length-whole js, length-whole ks)
length-both (suc first) js ks each =
    let rest = length-both first js ks (λ n h. each n (omega (arith, h))) in
    let here = each first (omega arith) in
    omega (arith, rest, here, length-step first js, length-step first ks)

-- ---- an account

settled-or-open : (n : ℕ) (os : List (Option Outcome)) → n < length os → settled_at n os + open_at n os ≡ 1
settled-or-open n [] h = absurd (omega (arith, h))
settled-or-open zero (None ∷ os) h = refl
settled-or-open zero (Some o ∷ os) h = refl
settled-or-open (suc n) (o ∷ os) h = settled-or-open n os (omega (arith, h))

counted_at-drop : (count : Option Outcome → ℕ) (first n : ℕ) (os : List (Option Outcome)) → counted_at count n (drop first os) ≡ counted_at count (first + n) os
counted_at-drop count zero n os = ap (λ (k : ℕ). counted_at count k os) (sym (zero-add n))
counted_at-drop count (suc first) n [] = refl
counted_at-drop count (suc first) n (o ∷ os) =
    let next : suc (first + n) ≡ suc first + n = omega arith in
    counted_at-drop count first n os ∙ ap (λ (k : ℕ). counted_at count k (o ∷ os)) next

account-from : (first : ℕ) (waiting settled : List ℕ) (os : List (Option Outcome)) → first ≤ length os → Account waiting settled os
    → Account (numbers_from first waiting) (numbers_from first settled) (drop first os)
account-from first waiting settled os within a = record {
  size =
      let both = length-both first settled waiting (λ n h. let one = settled-or-open n os (omega (arith, h, within)) in let s = a.once n in let w = a.waits n in omega (arith, one, s, w)) in
      let size = a.size in
      omega (arith, both, size, length-drop first os, within);
  once = λ n. times-from first n settled ∙ a.once (first + n) ∙ sym (counted_at-drop _ first n os);
  waits = λ n. times-from first n waiting ∙ a.waits (first + n) ∙ sym (counted_at-drop _ first n os);
}

-- ---- none is below

module _ (first : ℕ) where
  numbers-map : (ns : List ℕ) → All (λ n. first ≤ n) ns → numbers_from first ns ≡ map (λ n. n - first) ns
  numbers-map [] least = refl
  numbers-map (n ∷ ns) least =
      ap (λ (b : Bool). cond b ((n - first) ∷ numbers_from first ns) (numbers_from first ns)) (le-leb first n (least zero zero (omega arith)))
      ∙ ap (λ (xs : List ℕ). (n - first) ∷ xs) (numbers-map ns (λ k d h. least (suc k) d (omega (arith, h))))

  rises-map : (ns : List ℕ) → IsStrictlyIncreasing ns → All (λ n. first ≤ n) ns → IsStrictlyIncreasing (map (λ n. n - first) ns)
  rises-map ns rises least k within =
      let long = length-map ns (λ (n : ℕ). n - first) in
      let next : k + 1 < length ns = omega (arith, within, long) in
      let here : k < length ns = omega (arith, next) in
      omega (arith, rises k next, least k zero here, get_or-map (λ (n : ℕ). n - first) ns k 0 0 here, get_or-map (λ (n : ℕ). n - first) ns (k + 1) 0 0 next)

  numbers-of : (es : List Entry) → entry_numbers (renumbered first es) ≡ map (λ n. n - first) (entry_numbers es)
  numbers-of [] = refl
  numbers-of (e ∷ es) = ap (λ (ns : List ℕ). (e.number - first) ∷ ns) (numbers-of es)

  pub size-of : (es : List Entry) → entries_size (renumbered first es) ≡ entries_size es
  size-of [] = refl
  size-of (e ∷ es) =
      entries_size-cons (record e { number = e.number - first }) (renumbered first es) ∙ ap (λ (n : ℕ). length e.bytes + n) (size-of es) ∙ sym (entries_size-cons e es)

  module _ (es : List Entry) (least : All (λ n. first ≤ n) (entry_numbers es)) where
    pub account-renumbered : (settled : List ℕ) (os : List (Option Outcome)) → first ≤ length os → Account (entry_numbers es) settled os
        → Account (entry_numbers (renumbered first es)) (numbers_from first settled) (drop first os)
    account-renumbered settled os within a =
        subst (λ (ns : List ℕ). Account ns (numbers_from first settled) (drop first os)) (numbers-map (entry_numbers es) least ∙ sym (numbers-of es))
        (account-from first (entry_numbers es) settled os within a)

    pub rises-renumbered : IsStrictlyIncreasing (entry_numbers es) → IsStrictlyIncreasing (entry_numbers (renumbered first es))
    rises-renumbered rises = subst IsStrictlyIncreasing (sym (numbers-of es)) (rises-map (entry_numbers es) rises least)

-- ---- from the first that waits

first-least : (ns : List ℕ) → IsStrictlyIncreasing ns → (k : ℕ) → k < length ns → get_or ns 0 0 ≤ get_or ns k 0
first-least ns rises zero within = omega arith
first-least ns rises (suc k) within =
    let next : k + 1 ≡ suc k = omega arith in
    let before = first-least ns rises k (omega (arith, within)) in
    let here = rises k (omega (arith, within)) in
    omega (arith, before, here, ap (λ (i : ℕ). get_or ns i 0) next)

pub least-waits : (es : List Entry) (writes : ℕ) → IsStrictlyIncreasing (entry_numbers es) → All (λ n. first_number es writes ≤ n) (entry_numbers es)
least-waits [] writes rises k d within = absurd (omega (arith, within))
least-waits (e ∷ es) writes rises k d within =
    let ns = entry_numbers (e ∷ es) in
    let same = get_or_default ns k d 0 within in
    omega (arith, first-least ns rises k within, same)

pub first-within : (es : List Entry) (settled : List ℕ) (os : List (Option Outcome)) → Account (entry_numbers es) settled os → first_number es (length os) ≤ length os
first-within [] settled os a = omega arith
first-within (e ∷ es) settled os a = let within = account-within [] (entry_numbers es) settled e.number os a in omega (arith, within)
