-- In which order writes are settled: the numbers of those that have an outcome, each once.
use Rattle.std.specs.Prelude.{◌≡◌, ℕ, zero, suc, ◌+◌, ◌-◌, List, [], ◌∷◌, ◌++◌, length, Option, is_some, if◌then◌else◌, nat_le}
use Rattle.std.specs.List.Sorted.{IsStrictlyIncreasing}
use Rattle.pl_event.specs.declared.outcomes.Outcome.{Outcome}

-- 1 where the two are the same, else 0
abbrev pub same_as : ℕ → ℕ → ℕ
same_as zero zero = 1
same_as zero (suc k) = 0
same_as (suc n) zero = 0
same_as (suc n) (suc k) = same_as n k

-- how often a number stands in a list
abbrev pub times : ℕ → List ℕ → ℕ
times n [] = 0
times n (k ∷ ks) = same_as n k + times n ks

-- the numbers from this one on, counted from it
abbrev pub numbers_from : ℕ → List ℕ → List ℕ
numbers_from first [] = []
numbers_from first (n ∷ ns) = if nat_le first n then (n - first) ∷ numbers_from first ns else numbers_from first ns

-- what is counted of what became of write n, and 0 where there is no such write
abbrev pub counted_at : (Option Outcome → ℕ) → ℕ → List (Option Outcome) → ℕ
counted_at count n [] = 0
counted_at count zero (o ∷ os) = count o
counted_at count (suc n) (o ∷ os) = counted_at count n os

-- 1 where write n has an outcome, else 0
abbrev pub settled_at : ℕ → List (Option Outcome) → ℕ
settled_at n os = counted_at (λ o. if is_some o then 1 else 0) n os

-- 1 where write n has none yet, else 0
abbrev pub open_at : ℕ → List (Option Outcome) → ℕ
open_at n os = counted_at (λ o. if is_some o then 0 else 1) n os

-- The settled numbers are the writes with an outcome (ChannelPromise). Each of these stands once in the list, and no
-- other number does.
abbrev pub AreSettled : List ℕ → List (Option Outcome) → Type 0
AreSettled settled os = (n : ℕ) → times n settled ≡ settled_at n os

-- Each write waits, or is settled.
pub record Account (waiting settled : List ℕ) (os : List (Option Outcome)) : Type 0 where
  pub size : length settled + length waiting ≡ length os
  pub once : AreSettled settled os
  pub waits : (n : ℕ) → times n waiting ≡ open_at n os

-- More are settled after these, by one call: in rising order.
pub record GoesOn (before after : List ℕ) : Type 0 where
  pub more : List ℕ
  pub after_is : after ≡ before ++ more
  pub rises : IsStrictlyIncreasing more
