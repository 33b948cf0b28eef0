-- How a live channel stands: what it was fed, what its nodes have made of that, and what of it was handed out.
use Rattle.std.specs.Prelude.{◌≡◌, ℕ, suc, ◌+◌, ◌≤◌, List, [], ◌∷◌, ◌++◌, length, slice_get, All, Bool, true, false, not, ◌&&◌, ◌||◌, ◌==◌, is_some, Option, Some, None, if◌then◌else◌}
use Rattle.std.specs.Option.{option_map_or}
use Rattle.pl_event.specs.declared.events.Event.{Event}
use Rattle.pl_event.specs.declared.outcomes.Cause.{Cause}
use Rattle.pl_event.specs.declared.outcomes.Cause.TheVariants.{Memory}
use Rattle.pl_event.specs.Meaning.{Meaning}
use Rattle.pl_event.specs.Inputs.{recorded_input}
use Rattle.pl_stages.specs.Counts.{IsThrifty, weight}
use Rattle.pl_context.specs.Standings.{cause_of, has_failed, is_over}
use Rattle.pl_context.specs.Stops.{any_stopped}
use Rattle.pl_context.specs.TailViews.{TailView}
use Rattle.pl_context.specs.WaitingViews.{Entry}
use Rattle.pl_head.specs.HeadStand.{HeadView, HeadStandsAfter, ReadsStand, is_idle}
use Rattle.pl_head.specs.InputStand.{fed_plan, steps_left, takes_bursts}
use Rattle.pl_head.specs.Marks.{Change}
use Rattle.pl_head.specs.Transports.{TransportState}
use Rattle.pl_part.specs.Parts.{ChannelPartView, head_hop, part_gone, part_standing}
use Rattle.pl_part.specs.Paths.{path_handed_over}
use Rattle.pl_net.specs.Nets.{StationsStand}
use Rattle.pl_net.specs.Stations.{stations_view}
use Rattle.pl_net.specs.declared.stations.Stations.{Stations}
use Rattle.pl_world.specs.Plans.{ChannelPlan, Plan, tail_hop, planned_head_hop}
use Rattle.pl_world.specs.PlanRules.{IsPlan, IsSmallChannel}
use Rattle.pl_world.specs.Reports.{tail_of}
use Rattle.pl_channel.specs.Lanes.{world_of}
use Rattle.pl_channel.specs.Feeding.{MeansPlan}
use Rattle.pl_replay.specs.Moves.{nodes_view, nodes_stand}
use Rattle.pl_replay.specs.declared.channels.Channels.{Channels}
use Rattle.pl_live.specs.declared.live.TheConstants.{MAX_FED}

-- A live channel: its nodes, how much may still be fed, and whether the end is to come. Of its tail's events so many were
-- handed out, and these are next. Of its output so many bytes are gone, and of those that its transport holds so many were
-- consumed.
pub record LiveView (S T : Type 0) : Type 0 where
  pub stations : Stations (Channels S T)
  pub room : ℕ
  pub ends : Bool
  pub delivered : ℕ
  pub front : List Event
  pub gone : ℕ
  pub consumed : ℕ

-- how many bytes of its output were consumed
abbrev pub consumed_of : {S T : Type 0} → LiveView S T → ℕ
consumed_of live = live.gone + live.consumed

-- the plan of a channel that is alone, on one executor
abbrev pub alone : ChannelPlan → Plan
alone p = record { capacity = 1; executors = 1; channels = p ∷ [] }

-- ---- its two ends

-- the head of a channel that is alone
abbrev pub head_in : {S T : Type 0} → List (ChannelPartView S T) → Option (HeadView T)
head_in parts = option_map_or (λ (part : ChannelPartView _ _). part.head) (slice_get parts 0) None

-- its tail
abbrev pub tail_in : {S T : Type 0} → List (ChannelPartView S T) → Option TailView
tail_in parts = option_map_or (λ (part : ChannelPartView _ _). part.path.tail) (slice_get parts 0) None

-- what the tail holds of its record
abbrev pub recorded_in : {S T : Type 0} → List (ChannelPartView S T) → List Event
recorded_in parts = option_map_or (λ (t : TailView). t.events) (tail_in parts) []

-- how many events the tail has handed over
abbrev pub handed_in : {S T : Type 0} → List (ChannelPartView S T) → ℕ
handed_in parts = option_map_or (λ (part : ChannelPartView _ _). path_handed_over part.path) (slice_get parts 0) 0

-- how many bytes of the output are gone
abbrev pub gone_in : {S T : Type 0} → List (ChannelPartView S T) → ℕ
gone_in parts = (option_map_or (λ (part : ChannelPartView _ _). part_gone part) (slice_get parts 0) (0, false)).0

-- what the transport holds of what it has accepted
abbrev pub accepted_in : {S T : Type 0} → (T → TransportState) → List (ChannelPartView S T) → List ℕ
accepted_in state parts = option_map_or (λ (h : HeadView _). (state h.transport).accepted) (head_in parts) []

-- how many read steps are left before the end
abbrev pub left_in : {S T : Type 0} → List (ChannelPartView S T) → ℕ
left_in parts = option_map_or (λ (h : HeadView _). steps_left h.input) (head_in parts) 0

-- whether a read step is left: the reads are not closed
abbrev pub open_in : {S T : Type 0} → List (ChannelPartView S T) → Bool
open_in parts = option_map_or (λ (h : HeadView _). h.input.port.is_open) (head_in parts) false

-- what a live channel has: its part, alone
abbrev pub parts_of : {S T : Type 0} → LiveView S T → List (ChannelPartView S T)
parts_of live = live.stations.nodes.parts.items

-- ---- what is gone

-- Of these events so many were handed out, and then these are next. Together they are as many as were handed over.
pub record HandsOut (events : List Event) (delivered : ℕ) (front : List Event) (handed : ℕ) : Type 0 where
  pub before : List Event
  pub rest : List Event
  pub in_order : (before ++ front) ++ rest ≡ events
  pub delivered_is : length before ≡ delivered
  pub handed_is : length (before ++ front) ≡ handed

-- ---- what was fed

-- A head reads what its channel was fed. It has read so many steps, the end only after it was said to come; and only a failure
-- of its own closes its reads before that.
pub record ReadsFed {T : Type 0} (p : ChannelPlan) (ends : Bool) (h : HeadView T) : Type 0 where
  pub reads : ℕ
  pub failed : Bool
  pub stand : ReadsStand (fed_plan p.bursts) reads failed h
  pub by_failure : failed ≡ true → is_some h.failure ≡ true
  pub not_ended : ends ≡ false → reads ≤ length p.bursts + 1

-- a head that has not failed by itself has noted no end or failure of its lane since then
abbrev pub IsUnclosed : {T : Type 0} → HeadView T → Type 0
IsUnclosed h = h.failure ≡ None → h.is_closed ≡ false

module _ {T : Type 0} (state : T → TransportState) where
  -- no flushed byte waits at a head, or it has failed by itself
  abbrev pub IsWritten : HeadView T → Type 0
  IsWritten h = (ys zs : List Event) (sizes : List Change) → HeadStandsAfter state h ys zs sizes → is_idle state h ys ≡ true

  -- All that was fed was read, the end too where that is to come, and no flushed byte waits.
  pub record IsSettled (ends : Bool) (h : HeadView T) : Type 0 where
    pub all_read : steps_left h.input ≡ 0
    pub end_read : ends ≡ true → h.input.port.is_open ≡ false
    pub written : IsWritten h

-- nothing has failed: no node has, and no growth was refused
abbrev pub IsSound : {S T : Type 0} → LiveView S T → Type 0
IsSound live = (option_map_or (λ (part : ChannelPartView _ _). has_failed (part_standing part)) (slice_get (parts_of live) 0) false ≡ false) × (any_stopped live.stations.work.stopped ≡ false)

-- why something has failed: memory where a growth was refused, else as its nodes stand together
abbrev pub live_cause : {S T : Type 0} → LiveView S T → Option Cause
live_cause live = if any_stopped live.stations.work.stopped then Some Memory else option_map_or (λ (part : ChannelPartView _ _). cause_of (part_standing part)) (slice_get (parts_of live) 0) None

-- no node of a live channel has ended or failed, and its head may be fed
abbrev pub may_take : {S T : Type 0} → LiveView S T → Bool
may_take live = option_map_or (λ (part : ChannelPartView _ _). not (is_over (part_standing part))) (slice_get (parts_of live) 0) false
    && option_map_or (λ (h : HeadView _). takes_bursts h.input) (head_in (parts_of live)) false

-- a burst is wanted: one may come, no read step is left, and it would not be held: the channel is writable, or no flushed byte
-- waits
abbrev pub wants_burst : {S T : Type 0} → (T → TransportState) → LiveView S T → HeadView T → List Event → Bool
wants_burst state live h ys = not live.ends && (may_take live && ((steps_left h.input == 0) && (not h.buffer.is_unwritable || is_idle state h ys)))

-- the head has made no read step
abbrev pub ReadsSame : {S T : Type 0} → List (ChannelPartView S T) → List (ChannelPartView S T) → Type 0
ReadsSame parts parts' = (left_in parts' ≡ left_in parts) × (open_in parts' ≡ open_in parts)

-- The plan of a live channel, which is alone: it is small, and its handlers are thrifty.
pub record IsLivePlan (p : ChannelPlan) : Type 0 where
  pub ruled : IsPlan (alone p)
  pub small : IsSmallChannel p
  pub thrifty_inbound : All IsThrifty p.inbound
  pub thrifty_outbound : All IsThrifty p.outbound

module _ {S T : Type 0} (meaning : S → Meaning) (stands_after : S → List Event → Type 0) (state : T → TransportState) where
  -- The nodes of a live channel go by its plan: each means what that says of its hop, the head reads what was fed, and its
  -- transport has the plan's window.
  pub record GoesByPlan (p : ChannelPlan) (ends : Bool) (part : ChannelPartView S T) : Type 0 where
    pub executors_are : part.path.executors ≡ p.executors
    pub tail_at : part.path.tail_hop ≡ tail_hop p
    pub head_at : head_hop part ≡ planned_head_hop p
    pub meant : MeansPlan meaning p part
    pub has_head : is_some part.head ≡ true
    pub has_tail : is_some part.path.tail ≡ true
    pub reads : (h : HeadView T) → part.head ≡ Some h → ReadsFed p ends h
    pub window : (h : HeadView T) → part.head ≡ Some h → (state h.transport).window ≡ p.window
    -- an end or a failure that the head noted only once it had failed by itself
    pub unclosed : (h : HeadView T) → part.head ≡ Some h → IsUnclosed h

  -- So do those of a channel that is alone.
  pub record GoesAlone (p : ChannelPlan) (ends : Bool) (parts : List (ChannelPartView S T)) : Type 0 where
    pub part : ChannelPartView S T
    pub is_alone : parts ≡ part ∷ []
    pub by_plan : GoesByPlan p ends part

  -- The events that were handed out of a live channel, and those that are next to be, begin what its plan says. So many bytes are
  -- gone, and as many as were consumed are held, or more.
  pub record HasHanded (p : ChannelPlan) (live : LiveView S T) : Type 0 where
    pub events : HandsOut (tail_of p) live.delivered live.front (handed_in (parts_of live))
    pub gone_is : live.gone ≡ gone_in (parts_of live)
    pub consumed_within : live.consumed ≤ length (accepted_in state (parts_of live))

  -- A live channel stands at the plan of what it was fed. Its nodes, on one executor, stand in the world of that plan, with
  -- nothing on its way; and the events and bytes that were handed out are the first that the plan says.
  pub record LiveStands (p : ChannelPlan) (live : LiveView S T) : Type 0 where
    pub plan : IsLivePlan p
    pub fed : weight (recorded_input p.bursts) + live.room ≡ MAX_FED
    pub goes : GoesAlone p live.ends (parts_of live)
    pub handed : HasHanded p live
    pub executors : length live.stations.stations.items ≡ 1
    pub backlogs : ℕ → List (Entry Unit)
    pub stands : StationsStand (nodes_view meaning) (nodes_stand meaning stands_after state) (world_of false (alone p)) 0 (stations_view live.stations backlogs)
    pub rests : live.stations.work.items ≡ []

  -- A live channel between two calls: it stands; and where all its output was consumed, a call of its transport accepts a byte,
  -- and its head has not failed by itself, nothing is left to be done.
  pub record LiveRests (p : ChannelPlan) (live : LiveView S T) : Type 0 where
    pub stands : LiveStands p live
    pub settled : (h : HeadView T) (w : ℕ) → head_in (parts_of live) ≡ Some h → live.consumed ≡ length (accepted_in state (parts_of live)) → h.failure ≡ None → p.window ≡ Some (suc w) → IsSettled state live.ends h
