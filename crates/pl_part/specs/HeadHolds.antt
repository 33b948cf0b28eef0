-- How a head stands where lanes may fail: what it took of its own lane, what was read, and how far its lanes have come.
use Rattle.std.specs.Prelude.{◌≡◌, ℕ, ◌+◌, ◌≤◌, ◌<◌, List, [], ◌∷◌, ◌++◌, length, take, true, false, Bool, ◌||◌, cond, Some}
use Rattle.pl_event.specs.declared.events.Event.{Event}
use Rattle.pl_event.specs.declared.envelopes.Lane.{Lane}
use Rattle.pl_event.specs.Hops.{same_lane, data_lane, flags_lane}
use Rattle.pl_event.specs.Inputs.{recorded_input}
use Rattle.pl_event.specs.Worlds.{World, content_of}
use Rattle.pl_context.specs.declared.standing.Standing.TheVariants as standings
use Rattle.pl_context.specs.Standings.{is_over, cause_of}
use Rattle.pl_flow.specs.Flows.{Point, nowhere}
use Rattle.pl_head.specs.declared.inputs.ReadPlan.{ReadPlan}
use Rattle.pl_head.specs.Marks.{Change}
use Rattle.pl_head.specs.Writes.{bytes_of, out, unflushed_writes}
use Rattle.pl_head.specs.Transports.{TransportState}
use Rattle.pl_head.specs.HeadStand.{HeadView, HeadStandsAfter, ReadsStand, HasFewFlags, lane_over}
use Rattle.pl_part.specs.ContextHolds.{port_point}
use Rattle.pl_part.specs.TailHolds.{MayFailFor}
use Rattle.pl_event.specs.declared.limits.TheConstants.{MAX_ITEMS}

-- ---- its lanes: that of its reads, and that of its flags

abbrev pub head_writes : {T : Type 0} → HeadView T → Lane → Bool
head_writes h l = same_lane l (data_lane h.channel 0) || same_lane l (flags_lane h.channel 0)

-- how far a lane has come
abbrev pub head_came : {T : Type 0} → HeadView T → Lane → Point
head_came h l = cond (same_lane l (data_lane h.channel 0)) (port_point h.input.port) (cond (same_lane l (flags_lane h.channel 0)) (port_point h.buffer.flags) nowhere)

abbrev pub head_lanes : {T : Type 0} → HeadView T → List Lane
head_lanes h = data_lane h.channel 0 ∷ flags_lane h.channel 0 ∷ []

-- how many items of a lane it has taken
abbrev pub head_taken : {T : Type 0} → HeadView T → Lane → ℕ
head_taken h l = cond (same_lane l (data_lane h.channel h.hop)) h.taken 0

-- ---- the stand

module _ {T : Type 0} (state : T → TransportState) where
  -- What it took of its lane: the events that are forgotten, of which no byte waits, then ys up to a failure of its own, and zs
  -- from it on. Together they are the first events of the lane, in order and with none left out: no more than the items that it took, and as many
  -- while the lane is open. Where the lane has ended before such a failure, ys are all there are; and from a failure behind the end or the
  -- failure of its lane it took none.
  pub record HeadTook (events : List Event) (h : HeadView T) : Type 0 where
    pub gone : List Event
    pub bytes : h.gone ≡ length (out gone)
    pub flushed : bytes_of (unflushed_writes gone) ≡ []
    pub never : h.has_forgotten ≡ false → gone ≡ []
    pub ys : List Event
    pub zs : List Event
    pub sizes : List Change
    pub after : HeadStandsAfter state h ys zs sizes
    pub count : ℕ
    pub within : count ≤ length events
    pub in_order : (gone ++ ys) ++ zs ≡ take count events
    pub most : count ≤ h.taken
    pub running : lane_over h ≡ false → h.taken ≡ count
    pub ended : h.standing ≡ standings.Ended → count ≡ length events
    pub none_late : is_over h.standing ≡ true → zs ≡ []

  -- It holds, where its lane carries these events and it reads by this plan.
  pub record HeadHoldsWith (world : World) (plan : ReadPlan) (events : List Event) (h : HeadView T) : Type 0 where
    pub own : content_of world (data_lane h.channel h.hop) ≡ Some events
    pub few : length events + 1 < MAX_ITEMS
    pub took : HeadTook events h
    pub most : h.taken ≤ length events + 1
    -- why its lane has failed, and why it has by itself
    pub may : MayFailFor world (cause_of h.standing)
    pub may_itself : MayFailFor world h.failure
    -- its reads bring what the first lane carries, and their port is of that lane
    pub input : content_of world (data_lane h.channel 0) ≡ Some (recorded_input plan.bursts)
    pub few_input : length (recorded_input plan.bursts) + 1 < MAX_ITEMS
    pub reads : (reads : ℕ) × (failed : Bool) × ReadsStand plan reads failed h
    pub entrance : h.input.port.lane ≡ data_lane h.channel 0
    -- so are its flags
    pub flags : h.buffer.flags.lane ≡ flags_lane h.channel 0
    pub few_flags : HasFewFlags h

  -- A head holds in a world, for some content of its lane and some plan. (The world says what comes.)
  pub record HeadHolds (world : World) (h : HeadView T) : Type 0 where
    pub plan : ReadPlan
    pub events : List Event
    pub holds : HeadHoldsWith world plan events h

-- What the world says of a head's lanes. It says what its own brings in all, and that the first of the channel brings
-- what it is to read.
pub record IsHeadPlanned (world : World) (plan : ReadPlan) (channel hop : ℕ) : Type 0 where
  pub events : List Event
  pub own : content_of world (data_lane channel hop) ≡ Some events
  pub few : length events + 1 < MAX_ITEMS
  pub input : content_of world (data_lane channel 0) ≡ Some (recorded_input plan.bursts)
