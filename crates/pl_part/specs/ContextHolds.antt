-- How a context stands where lanes may fail: what it took, and what each of its lanes was given.
use Rattle.std.specs.Prelude.{◌≡◌, ℕ, ◌+◌, ◌≤◌, ◌<◌, ◌^◌, List, [], ◌∷◌, length, take, true, false, not, ◌&&◌, ◌||◌, Bool, cond, Some}
use Rattle.pl_event.specs.declared.events.Event.{Event}
use Rattle.pl_event.specs.declared.envelopes.Kind.TheVariants.{Data, Flags}
use Rattle.pl_event.specs.declared.envelopes.Lane.{Lane}
use Rattle.pl_event.specs.declared.stages.Direction.{Direction}
use Rattle.pl_event.specs.Meaning.{Meaning, up_of, down_of}
use Rattle.pl_context.specs.declared.ports.Port.{Port}
use Rattle.pl_context.specs.declared.standing.Standing.TheVariants as standings
use Rattle.pl_context.specs.Standings.{is_over, has_failed}
use Rattle.pl_context.specs.ContextViews.{ContextView, has_up, has_down, down_hop}
use Rattle.pl_context.specs.Contexts.{StandsAfter}
use Rattle.pl_event.specs.Hops.{same_lane, data_lane}
use Rattle.pl_event.specs.Worlds.{World, content_of}
use Rattle.pl_flow.specs.Flows.{Point, point, nowhere}
use Rattle.pl_event.specs.declared.limits.TheConstants.{MAX_ITEMS}
use Rattle.pl_part.specs.LaneStages.{LaneStage}

-- ---- the lanes of three ports, of which a stage has those upwards, or that downwards, or all

-- how far a port has come
abbrev pub port_point : Port → Point
port_point p = point p.made (not p.is_open)

-- whether it writes a lane
abbrev pub ports_write : Bool → Bool → Lane → Lane → Lane → Lane → Bool
ports_write hu hd up down flags l = (hu && same_lane l up) || ((hd && same_lane l down) || (hu && same_lane l flags))

-- how far a lane has come
abbrev pub ports_came : Bool → Bool → Port → Port → Port → Lane → Point
ports_came hu hd up down flags l =
    cond (hu && same_lane l up.lane) (port_point up)
    (cond (hd && same_lane l down.lane) (port_point down)
    (cond (hu && same_lane l flags.lane) (port_point flags) nowhere))

abbrev pub context_writes : {S : Type 0} → Direction → ContextView S → Lane → Bool
context_writes d c l = ports_write (has_up d) (has_down d) c.up.lane c.down.lane c.flags.lane l

abbrev pub context_came : {S : Type 0} → Direction → ContextView S → Lane → Point
context_came d c l = ports_came (has_up d) (has_down d) c.up c.down c.flags l

-- All of them. (One that a stage has not enters where the other one does.)
abbrev pub context_lanes : {S : Type 0} → ContextView S → List Lane
context_lanes c = c.up.lane ∷ c.down.lane ∷ c.flags.lane ∷ []

-- ---- the stand

-- The lanes of a context in the world: what its own brings in all, and what its stage makes of that.
pub record IsWired (world : World) (m : Meaning) (events : List Event) (channel hop : ℕ) (above below aside : Lane) : Type 0 where
  pub own : content_of world (data_lane channel hop) ≡ Some events
  pub up : has_up m.direction ≡ true → content_of world above ≡ Some (up_of m events)
  pub down : has_down m.direction ≡ true → content_of world below ≡ Some (down_of m events)
  pub up_kind : above.kind ≡ Data
  pub down_kind : below.kind ≡ Data
  pub flags_kind : aside.kind ≡ Flags
  -- a turn's two data lanes are two
  pub apart : has_up m.direction ≡ true → has_down m.direction ≡ true → same_lane above below ≡ false
  pub few : length events + 1 < MAX_ITEMS
  pub few_up : has_up m.direction ≡ true → length (up_of m events) + 1 < MAX_ITEMS
  pub few_down : has_down m.direction ≡ true → length (down_of m events) + 1 < MAX_ITEMS

-- It took few items, and made few.
pub record HasFewItems {S : Type 0} (c : ContextView S) : Type 0 where
  pub taken : c.taken ≤ MAX_ITEMS
  pub flags_taken : c.flags_taken ≤ 2 ^ 32
  pub up : c.up.made ≤ MAX_ITEMS
  pub down : c.down.made ≤ MAX_ITEMS
  pub flags : c.flags.made ≤ c.flags_taken

module _ {S : Type 0} (world : World) (meaning : S → Meaning) (stands_after : S → List Event → Type 0) where
  -- While it is open it stands after the events that it took, and has given its lanes what its stage makes of them; so, with
  -- the end, has one that has ended, and one whose stage has quit downwards. Once it has ended or failed its data lanes are
  -- closed, where it has failed whatever they were given; its stage stands as it did, unless that failure was out of memory.
  pub record HoldsWith (m : Meaning) (events : List Event) (c : ContextView S) : Type 0 where
    pub meant : meaning c.stage ≡ m
    pub wired : IsWired world m events c.channel c.hop c.up.lane c.down.lane c.flags.lane
    pub within : c.standing ≡ standings.Open → c.taken ≤ length events
    pub stood : c.standing ≡ standings.Open → StandsAfter meaning stands_after c (take c.taken events)
    pub staged : LaneStage stands_after events c.standing c.stage
    pub up_open : c.standing ≡ standings.Open → c.up.is_open ≡ has_up m.direction
    pub down_open : c.standing ≡ standings.Open → c.down.is_open ≡ (has_down m.direction && not (m.ended (take c.taken events)))
    pub up_over : is_over c.standing ≡ true → c.up.is_open ≡ false
    pub down_over : is_over c.standing ≡ true → c.down.is_open ≡ false
    pub ended : c.standing ≡ standings.Ended → length events ≤ c.taken
    pub up_given : c.standing ≡ standings.Ended → has_up m.direction ≡ true → c.up.made ≡ length (up_of m events) + 1
    pub down_given : has_failed c.standing ≡ false → has_down m.direction ≡ true → c.down.is_open ≡ false → c.down.made ≡ length (down_of m (take c.taken events)) + 1
    pub flags_open : c.flags.is_open ≡ true → has_up m.direction ≡ true
    pub flags : has_failed c.standing ≡ false → c.flags.is_open ≡ true → c.flags.made ≡ c.flags_taken
    -- why it has failed, where a call made it fail
    pub by_call : c.failed_by_call ≡ true → has_failed c.standing ≡ true
    pub few : HasFewItems c

  -- It holds for some content of its lane. (The world says which.)
  pub record ContextHolds (c : ContextView S) : Type 0 where
    pub events : List Event
    pub holds : HoldsWith (meaning c.stage) events c

-- What the world says of the lanes at a context's place.
pub record IsPlanned (world : World) (m : Meaning) (events : List Event) (channel hop k : ℕ) : Type 0 where
  pub own : content_of world (data_lane channel hop) ≡ Some events
  pub up : has_up m.direction ≡ true → content_of world (data_lane channel (hop + 1)) ≡ Some (up_of m events)
  pub down : has_down m.direction ≡ true → content_of world (data_lane channel (down_hop m.direction hop k)) ≡ Some (down_of m events)
  pub few : length events + 1 < MAX_ITEMS
  pub few_up : has_up m.direction ≡ true → length (up_of m events) + 1 < MAX_ITEMS
  pub few_down : has_down m.direction ≡ true → length (down_of m events) + 1 < MAX_ITEMS
