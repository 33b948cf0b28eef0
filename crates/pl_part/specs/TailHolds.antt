-- How a tail stands where its lanes may fail.
use Rattle.std.specs.Prelude.{◌≡◌, ℕ, ◌+◌, ◌%◌, ◌≤◌, ◌<◌, ◌^◌, ◌==◌, List, [], ◌∷◌, ◌++◌, length, take, true, false, Bool, Option, Some, None}
use Rattle.pl_event.specs.declared.events.Event.{Event}
use Rattle.pl_event.specs.declared.outcomes.Cause.{Cause}
use Rattle.pl_context.specs.declared.standing.Standing.TheVariants as standings
use Rattle.pl_context.specs.Standings.{has_failed, cause_of}
use Rattle.pl_context.specs.TailViews.{TailView}
use Rattle.pl_event.specs.Worlds.{World, content_of, may_fail}
use Rattle.pl_event.specs.Hops.{data_lane}
use Rattle.pl_event.specs.declared.limits.TheConstants.{MAX_ITEMS}

-- flags that alternate, flag n the first
abbrev pub Alternate : ℕ → List Bool → Type 0
Alternate n [] = Unit {0}
Alternate n (b ∷ bs) = (b ≡ (n % 2 == 1)) × Alternate (n + 1) bs

-- if something has failed, it was for a cause that comes in this world
abbrev pub MayFailFor : World → Option Cause → Type 0
MayFailFor world None = Unit {0}
MayFailFor world (Some cause) = may_fail world cause ≡ true

-- A tail has recorded the first events of its lane: all that it took while it was open, and all there are where it has ended.
-- Those that it has handed over come before those that it holds.
pub record TailHoldsWith (world : World) (events : List Event) (t : TailView) : Type 0 where
  pub own : content_of world (data_lane t.channel t.hop) ≡ Some events
  pub few : length events + 1 < MAX_ITEMS
  pub gone : List Event
  pub handed : length gone ≡ t.handed
  pub taken : t.standing ≡ standings.Open → (t.taken ≤ length events) × (gone ++ t.events ≡ take t.taken events)
  pub ended : t.standing ≡ standings.Ended → gone ++ t.events ≡ events
  pub failed : has_failed t.standing ≡ true → (n : ℕ) × (n ≤ length events) × (gone ++ t.events ≡ take n events)
  pub may : MayFailFor world (cause_of t.standing)
  -- The flags are the first of their lane: all that it took, until a growth was refused for one or it failed.
  pub flags : Alternate 0 t.flags
  pub flags_most : length t.flags ≤ t.flags_taken
  pub flags_all : has_failed t.standing ≡ false → t.flags_stopped ≡ false → length t.flags ≡ t.flags_taken
  -- It took few items.
  pub few_taken : t.taken ≤ MAX_ITEMS
  pub few_flags : t.flags_taken ≤ 2 ^ 32

pub record TailHolds (world : World) (t : TailView) : Type 0 where
  pub events : List Event
  pub holds : TailHoldsWith world events t
