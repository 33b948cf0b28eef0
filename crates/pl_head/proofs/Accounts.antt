-- Each write waits or is settled, whatever is added or settled.
use Rattle.std.proofs.Common.{◌≡◌, ℕ, zero, suc, ◌+◌, ◌<◌, ◌≤◌, List, [], ◌∷◌, ◌++◌, length, take, drop, set, get_or, Option, Some, None, ap, sym, subst, ◌∙◌, refl, arith, length-append, add-zero}
use Rattle.std.proofs.lemmas.List.{length-set, map-append, take-append-drop}
use Rattle.std.proofs.Math.Seq.{drop-cons}
use Rattle.pl_event.specs.declared.outcomes.Outcome.{Outcome}
use Rattle.pl_head.specs.declared.outbound_buffer.Entry.{Entry}
use Rattle.pl_head.specs.WaitingMessages.{entry_numbers}
use Rattle.pl_head.specs.Settling.{same_as, times, settled_at, open_at, Account}

pub same_as-same : (n : ℕ) → same_as n n ≡ 1
same_as-same zero = refl
same_as-same (suc n) = same_as-same n

pub times-append : (n : ℕ) (xs ys : List ℕ) → times n (xs ++ ys) ≡ times n xs + times n ys
times-append n [] ys = omega arith
times-append n (x ∷ xs) ys = let rest = times-append n xs ys in omega (arith, rest)

-- ---- one outcome more

open_at-open : (n : ℕ) (os : List (Option Outcome)) → open_at n (os ++ None ∷ []) ≡ open_at n os + same_as n (length os)
open_at-open zero [] = refl
open_at-open (suc n) [] = refl
open_at-open zero (None ∷ os) = refl
open_at-open zero (Some o ∷ os) = refl
open_at-open (suc n) (o ∷ os) = open_at-open n os

settled_at-open : (n : ℕ) (os : List (Option Outcome)) → settled_at n (os ++ None ∷ []) ≡ settled_at n os
settled_at-open zero [] = refl
settled_at-open (suc n) [] = refl
settled_at-open zero (None ∷ os) = refl
settled_at-open zero (Some o ∷ os) = refl
settled_at-open (suc n) (o ∷ os) = settled_at-open n os

open_at-settled : (n : ℕ) (os : List (Option Outcome)) (new : Outcome) → open_at n (os ++ Some new ∷ []) ≡ open_at n os
open_at-settled zero [] new = refl
open_at-settled (suc n) [] new = refl
open_at-settled zero (None ∷ os) new = refl
open_at-settled zero (Some o ∷ os) new = refl
open_at-settled (suc n) (o ∷ os) new = open_at-settled n os new

settled_at-settled : (n : ℕ) (os : List (Option Outcome)) (new : Outcome) → settled_at n (os ++ Some new ∷ []) ≡ settled_at n os + same_as n (length os)
settled_at-settled zero [] new = refl
settled_at-settled (suc n) [] new = refl
settled_at-settled zero (None ∷ os) new = refl
settled_at-settled zero (Some o ∷ os) new = refl
settled_at-settled (suc n) (o ∷ os) new = settled_at-settled n os new

-- ---- one that waits is settled

open_at-few : (n : ℕ) (os : List (Option Outcome)) → open_at n os ≤ 1
open_at-few n [] = omega arith
open_at-few zero (None ∷ os) = omega arith
open_at-few zero (Some o ∷ os) = omega arith
open_at-few (suc n) (o ∷ os) = open_at-few n os

open_at-set : (n k : ℕ) (os : List (Option Outcome)) (new : Outcome) → open_at k os ≡ 1 → open_at n (set os k (Some new)) + same_as n k ≡ open_at n os
open_at-set n k [] new h = absurd (omega (arith, h))
open_at-set zero zero (None ∷ os) new h = refl
open_at-set (suc n) zero (None ∷ os) new h = add-zero (open_at n os)
open_at-set n zero (Some o ∷ os) new h = absurd (omega (arith, h))
open_at-set zero (suc k) (None ∷ os) new h = refl
open_at-set zero (suc k) (Some o ∷ os) new h = refl
open_at-set (suc n) (suc k) (o ∷ os) new h = open_at-set n k os new h

settled_at-set : (n k : ℕ) (os : List (Option Outcome)) (new : Outcome) → open_at k os ≡ 1 → settled_at n (set os k (Some new)) ≡ settled_at n os + same_as n k
settled_at-set n k [] new h = absurd (omega (arith, h))
settled_at-set zero zero (None ∷ os) new h = refl
settled_at-set (suc n) zero (None ∷ os) new h = sym (add-zero (settled_at n os))
settled_at-set n zero (Some o ∷ os) new h = absurd (omega (arith, h))
settled_at-set zero (suc k) (None ∷ os) new h = refl
settled_at-set zero (suc k) (Some o ∷ os) new h = refl
settled_at-set (suc n) (suc k) (o ∷ os) new h = settled_at-set n k os new h

-- a write that waits has a number
open_some : (n : ℕ) (os : List (Option Outcome)) → 0 < open_at n os → n < length os
open_some n [] h = absurd (omega (arith, h))
open_some zero (o ∷ os) h = omega arith
open_some (suc n) (o ∷ os) h = let rest = open_some n os h in omega (arith, rest)

-- ---- accounts

module _ (waiting settled : List ℕ) (os : List (Option Outcome)) where
  -- a write that waits
  pub account-waits : Account waiting settled os → Account (waiting ++ length os ∷ []) settled (os ++ None ∷ [])
  account-waits a = record {
    size = omega (arith, a.size, length-append waiting (length os ∷ []), length-append os (None ∷ []));
    once = λ n. a.once n ∙ sym (settled_at-open n os);
    waits = λ n. omega (arith, times-append n waiting (length os ∷ []), a.waits n, open_at-open n os);
  }

  -- a write that is settled at once
  pub account-adds : (new : Outcome) → Account waiting settled os → Account waiting (settled ++ length os ∷ []) (os ++ Some new ∷ [])
  account-adds new a = record {
    size = omega (arith, a.size, length-append settled (length os ∷ []), length-append os (Some new ∷ []));
    once = λ n. omega (arith, times-append n settled (length os ∷ []), a.once n, settled_at-settled n os new);
    waits = λ n. a.waits n ∙ sym (open_at-settled n os new);
  }

waits_open : (before after settled : List ℕ) (k : ℕ) (os : List (Option Outcome)) → Account (before ++ k ∷ after) settled os → open_at k os ≡ 1
waits_open before after settled k os a =
    omega (arith, a.waits k, times-append k before (k ∷ after), same_as-same k, open_at-few k os)

pub account-within : (before after settled : List ℕ) (k : ℕ) (os : List (Option Outcome)) → Account (before ++ k ∷ after) settled os → k < length os
account-within before after settled k os a = open_some k os (omega (arith, waits_open before after settled k os a))

-- one that waits is settled
pub account-settles : (before after settled : List ℕ) (k : ℕ) (os : List (Option Outcome)) (new : Outcome) → Account (before ++ k ∷ after) settled os
    → Account (before ++ after) (settled ++ k ∷ []) (set os k (Some new))
account-settles before after settled k os new a =
    let waits = waits_open before after settled k os a in
    record {
      size = omega (arith, a.size, length-append settled (k ∷ []), length-append before (k ∷ after), length-append before after, length-set os k (Some new));
      once = λ n. omega (arith, times-append n settled (k ∷ []), a.once n, settled_at-set n k os new waits);
      waits = λ n. omega (arith, times-append n before (k ∷ after), times-append n before after, a.waits n, open_at-set n k os new waits);
    }

-- ---- the settled ones, told one after another

settled_some : (n : ℕ) (os : List (Option Outcome)) → 0 < settled_at n os → (o : Outcome) × (get_or os n None ≡ Some o) × (n < length os)
settled_some n [] h = absurd (omega (arith, h))
settled_some zero (None ∷ os) h = absurd (omega (arith, h))
settled_some zero (Some o ∷ os) h = (o, refl, omega arith)
settled_some (suc n) (x ∷ os) h = let rest = settled_some n os h in (rest.0, rest.1, omega (arith, rest.2))

pub times-at : (xs : List ℕ) (i d : ℕ) → i < length xs → 0 < times (get_or xs i d) xs
times-at [] i d h = absurd (omega (arith, h))
times-at (x ∷ xs) zero d h = omega (arith, same_as-same x)
times-at (x ∷ xs) (suc i) d h = let rest = times-at xs i d (omega (arith, h)) in omega (arith, rest)

-- a write that waits or is settled has a number
pub waits_within : (waiting settled : List ℕ) (os : List (Option Outcome)) (k : ℕ) → Account waiting settled os → 0 < times k waiting → k < length os
waits_within waiting settled os k a stands = open_some k os (omega (arith, a.waits k))

pub settled_within : {waiting : List ℕ} (settled : List ℕ) (os : List (Option Outcome)) (k : ℕ) → Account waiting settled os → 0 < times k settled → k < length os
settled_within settled os k a stands = (settled_some k os (omega (arith, a.once k))).2

-- the write that stands at a place of the list is settled
pub told_some : {waiting : List ℕ} (settled : List ℕ) (os : List (Option Outcome)) (i n : ℕ) → Account waiting settled os → n ≡ get_or settled i n → i < length settled
    → (o : Outcome) × (get_or os n None ≡ Some o) × (n < length os)
told_some settled os i n a is h =
    let some : 0 < times n settled = subst (λ (k : ℕ). 0 < times k settled) (sym is) (times-at settled i n h) in
    settled_some n os (omega (arith, a.once n, some))

-- ---- accounts of messages

pub account-same : {waiting waiting' settled settled' : List ℕ} {os os' : List (Option Outcome)} → waiting' ≡ waiting → settled' ≡ settled → os' ≡ os → Account waiting settled os → Account waiting' settled' os'
account-same w s o a = rw (w, s, o) a

-- the message at a place is settled
module _ (entries : List Entry) (place : ℕ) (entry : Entry) (within : place < length entries) (is : entry ≡ get_or entries place entry) (before settled : List ℕ) (os : List (Option Outcome))
    (a : Account (before ++ entry_numbers (drop place entries)) settled os) where
  here : Account (before ++ entry.number ∷ entry_numbers (drop (suc place) entries)) settled os
  here =
      subst (λ (es : List Entry). Account (before ++ entry_numbers es) settled os) (drop-cons entries place entry within ∙ ap (λ (e : Entry). e ∷ drop (suc place) entries) (sym is)) a

  pub within-at : entry.number < length os
  within-at = account-within before (entry_numbers (drop (suc place) entries)) settled entry.number os here

  pub account-at : (new : Outcome) → Account (before ++ entry_numbers (drop (suc place) entries)) (settled ++ entry.number ∷ []) (set os entry.number (Some new))
  account-at new = account-settles before (entry_numbers (drop (suc place) entries)) settled entry.number os new here

-- what waits up to a place, and behind it
pub account-split : (entries : List Entry) (place : ℕ) {settled : List ℕ} {os : List (Option Outcome)} → Account (entry_numbers entries) settled os → Account (entry_numbers (take place entries) ++ entry_numbers (drop place entries)) settled os
account-split entries place {settled = settled} {os = os} a =
    subst (λ (ns : List ℕ). Account ns settled os)
    (ap (λ (ws : List Entry). entry_numbers ws) (sym (take-append-drop place entries)) ∙ map-append (λ (w : Entry). w.number) (take place entries) (drop place entries)) a
