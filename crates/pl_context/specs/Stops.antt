-- Which lanes have stopped on a list of envelopes, and for how many hops it has places.
use Rattle.std.specs.Prelude.{◌≡◌, ℕ, ◌≤◌, List, [], ◌∷◌, ◌++◌, length, Bool, true, not, ◌==◌, ◌&&◌}
use Rattle.std.specs.List.{list_any, IsDistinct}
use Rattle.pl_event.specs.declared.envelopes.Lane.{Lane}
use Rattle.pl_event.specs.declared.envelopes.Kind.TheVariants.{Data, Flags}
pub use Rattle.pl_event.specs.Hops.{same_hop}

-- The data and flags lanes that have stopped. What such a lane brings is discarded. There is a reserved place for a
-- failure on each data lane, and a data lane and the flags lane of its hop count as one.
pub record StopsView : Type 0 where
  pub lanes : List Lane
  pub flag_lanes : List Lane
  pub places : ℕ

-- this lane has stopped
abbrev pub has_stopped : StopsView → Lane → Bool
has_stopped s lane = elim lane.kind [ Data ↦ list_any (same_hop lane) s.lanes | Flags ↦ list_any (same_hop lane) s.flag_lanes ]

-- some lane has stopped
abbrev pub any_stopped : StopsView → Bool
any_stopped s = not (length s.lanes == 0 && length s.flag_lanes == 0)

-- one lane more has stopped
abbrev pub with_stop : StopsView → Lane → StopsView
with_stop s lane =
    elim lane.kind [ Data ↦ record s { lanes = s.lanes ++ lane ∷ [] } | Flags ↦ record s { flag_lanes = s.flag_lanes ++ lane ∷ [] } ]

-- these lanes enter only where the others do
abbrev pub AreAmong : List Lane → List Lane → Type 0
AreAmong some lanes = (lane : Lane) → list_any (same_hop lane) some ≡ true → list_any (same_hop lane) lanes ≡ true

-- There are places for these lanes (place_law). A list of at most `places` hops has them, and those that have
-- stopped.
pub record HasPlaces (s : StopsView) (lanes : List Lane) : Type 0 where
  pub hops : List Lane
  pub few : length hops ≤ s.places
  pub stopped : AreAmong s.lanes hops
  pub stopped_flags : AreAmong s.flag_lanes hops
  pub own : AreAmong lanes hops

-- nothing has stopped on a new list
abbrev pub no_stops : ℕ → StopsView
no_stops places = record { lanes = []; flag_lanes = []; places = places }

-- no lane is noted twice, and there is room to note one for each place
pub record IsStops (lanes flag_lanes : List Lane) (places capacity flag_capacity : ℕ) : Type 0 where
  pub distinct : IsDistinct same_hop lanes
  pub flags_distinct : IsDistinct same_hop flag_lanes
  pub few : length lanes ≤ places
  pub room : places ≤ capacity
  pub flags_room : places ≤ flag_capacity
