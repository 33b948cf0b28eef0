-- The targets for which something waits, by age.
use Rattle.std.specs.Prelude.{ℕ, ◌<◌, List, All, Option, nat_eq}
use Rattle.std.specs.List.{IsDistinct}
use Rattle.std.specs.List.Sorted.{IsNonDecreasingBy}
use Rattle.std.specs.Map.{keys_of, lookup}

-- Targets, each with the age of its front, and how many there may be.
pub record FrontsView : Type 0 where
  pub ages : List (ℕ × ℕ)
  pub places : ℕ

-- the age of the front for a target, where something waits for it
abbrev pub age_for : FrontsView → ℕ → Option ℕ
age_for f target = lookup (nat_eq target) f.ages

-- The oldest front is first, each target is there at most once, and there is room for each.
pub record IsFronts (ages : List (ℕ × ℕ)) (places : ℕ) : Type 0 where
  pub order : IsNonDecreasingBy (λ front. front.1) ages
  pub once : IsDistinct nat_eq (keys_of ages)
  pub there : All (λ target. target < places) (keys_of ages)
