-- What executors see of the lanes of their nodes, and of the list on which these put what they make.
use Rattle.std.specs.Prelude.{◌≡◌, ℕ, ◌+◌, Bool, List, cond}
use Rattle.pl_event.specs.declared.envelopes.Envelope.{Envelope}
use Rattle.pl_event.specs.declared.envelopes.Lane.{Lane}
use Rattle.pl_event.specs.Hops.{same_lane}
use Rattle.pl_context.specs.Stops.{StopsView, HasPlaces, AreAmong}
use Rattle.pl_flow.specs.Flows.{Point}

-- The lanes of some nodes (EventExecutor). By lane it is the executor that it enters, whether one of the nodes writes it,
-- how many items of it they have taken, and how far they have made it. Then the lanes for which there have to be places on
-- a work list.
pub record LanesView : Type 0 where
  pub target : Lane → ℕ
  pub written : Lane → Bool
  pub taken : Lane → ℕ
  pub came : Lane → Point
  pub places : List Lane

-- lanes go the same ways: only what was taken and made of them may have changed
abbrev pub SameRoutes : LanesView → LanesView → Type 0
SameRoutes v v' = v' ≡ record v { taken = v'.taken; came = v'.came }

-- how many items of each lane were taken, once this one was
abbrev pub taken_with : (Lane → ℕ) → Envelope → Lane → ℕ
taken_with taken e l = cond (same_lane l e.lane) (e.number + 1) (taken l)

-- A work list has kept its places. Where it had them for some of the lanes, it has them.
abbrev pub KeepsPlaces : List Lane → (before after : StopsView) → Type 0
KeepsPlaces lanes before after = (hops : List Lane) → AreAmong lanes hops → HasPlaces before hops → HasPlaces after hops
