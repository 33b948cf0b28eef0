-- The parts of all channels, by the number of each: where its lanes go and how far they have come, and what a part with all nodes
-- of its channel does.
use Rattle.std.specs.Prelude.{◌≡◌, ℕ, ◌+◌, ◌<◌, ◌≤◌, ◌^◌, Bool, true, false, not, ◌&&◌, ◌||◌, ◌==◌, List, ◌∷◌, ◌++◌, length, map, replicate, get_or, nat_lt, slice_get, slice_set, sum_by, flat_map, Option, Some, is_some}
use Rattle.std.specs.Option.{option_map_or}
use Rattle.pl_event.specs.declared.events.Event.{Event}
use Rattle.pl_event.specs.declared.envelopes.Envelope.{Envelope}
use Rattle.pl_event.specs.declared.envelopes.Lane.{Lane}
use Rattle.pl_event.specs.declared.envelopes.Kind.TheVariants.{Data}
use Rattle.pl_event.specs.Hops.{same_kind}
use Rattle.pl_event.specs.Meaning.{Meaning}
use Rattle.pl_event.specs.Worlds.{World}
use Rattle.pl_context.specs.declared.standing.Took.{Took}
use Rattle.pl_context.specs.ContextViews.{ContextView}
use Rattle.pl_context.specs.OutputsViews.{OutputsView}
use Rattle.pl_flow.specs.Flows.{Point, nowhere}
use Rattle.pl_flow.specs.LanesViews.{LanesView}
use Rattle.pl_flow.specs.declared.head_moves.HeadMove.{HeadMove}
use Rattle.pl_flow.specs.declared.head_moves.HeadMove.TheVariants as head
use Rattle.pl_head.specs.declared.inputs.ReadPlan.{ReadPlan}
use Rattle.pl_head.specs.Marks.{Change}
use Rattle.pl_head.specs.ReadSteps.{has_step}
use Rattle.pl_head.specs.Transports.{TransportState}
use Rattle.pl_head.specs.HeadStand.{HeadView, HeadStandsAfter, ReadsStand, is_read_held, is_idle}
use Rattle.pl_part.specs.Paths.{writer_hop}
use Rattle.pl_part.specs.Parts.{ChannelPartView, SamePart, PartHolds, PartTakes, PartAborts, PartMoves, head_hop, part_taken, part_lanes, part_writes, part_came}
use Rattle.pl_part.specs.Counts.{part_done}

-- ---- where lanes go, and how far they have come

-- a lane enters a node of the part's channel, wherever that is: at the last hop, the head's, data alone
abbrev pub is_hop : {S T : Type 0} → ChannelPartView S T → Lane → Bool
is_hop p l = nat_lt (l.hop + 1) (length p.path.executors) || ((l.hop + 1 == length p.path.executors) && same_kind l.kind Data)

-- the executor of what the lanes of a hop enter
abbrev pub executor_at : {S T : Type 0} → ChannelPartView S T → ℕ → ℕ
executor_at p hop = get_or p.path.executors hop 0

-- by channel, where there is one
abbrev pub home_of : {S T : Type 0} → List (ChannelPartView S T) → ℕ → ℕ
home_of ps c = option_map_or (λ (p : ChannelPartView _ _). executor_at p (head_hop p)) (slice_get ps c) 0

-- the executor that a lane enters
abbrev pub target_of : {S T : Type 0} → List (ChannelPartView S T) → Lane → ℕ
target_of ps l = option_map_or (λ (p : ChannelPartView _ _). executor_at p l.hop) (slice_get ps l.channel) 0

-- the executor on which a lane is written
abbrev pub origin_of : {S T : Type 0} → List (ChannelPartView S T) → Lane → ℕ
origin_of ps l = option_map_or (λ (p : ChannelPartView _ _). executor_at p (writer_hop p.path l.hop)) (slice_get ps l.channel) 0

-- how many items of a lane were taken
abbrev pub taken_of : {S T : Type 0} → List (ChannelPartView S T) → Lane → ℕ
taken_of ps l = option_map_or (λ (p : ChannelPartView _ _). part_taken p l) (slice_get ps l.channel) 0

-- The data lanes of all parts. For these there have to be places on a work list.
abbrev pub data_lanes_of : {S T : Type 0} → List (ChannelPartView S T) → List Lane
data_lanes_of ps = flat_map (λ (p : ChannelPartView _ _). part_lanes p) ps

abbrev pub done_of : {S T : Type 0} → List (ChannelPartView S T) → ℕ
done_of ps = sum_by (λ (p : ChannelPartView _ _). part_done p) ps

module _ {S T : Type 0} (meaning : S → Meaning) where
  -- a node of the part writes the lane, and its hop has an executor
  abbrev pub writes_here : ChannelPartView S T → Lane → Bool
  writes_here p l = nat_lt l.hop (length p.path.executors) && part_writes meaning p l

  -- a node of a part writes the lane
  abbrev pub writes_of : List (ChannelPartView S T) → Lane → Bool
  writes_of ps l = option_map_or (λ (p : ChannelPartView S T). writes_here p l) (slice_get ps l.channel) false

  -- how far the lane of a part has come
  abbrev pub came_of : List (ChannelPartView S T) → Lane → Point
  came_of ps l = option_map_or (λ (p : ChannelPartView S T). part_came meaning p l) (slice_get ps l.channel) nowhere

  -- the lanes of all parts, each of which enters this executor
  abbrev pub lanes_view : (Lane → ℕ) → List (ChannelPartView S T) → LanesView
  lanes_view target ps = record { target = target; written = writes_of ps; taken = taken_of ps; came = came_of ps; places = data_lanes_of ps }

-- ---- the stand

-- The part has all nodes of its channel: a context at each hop but the tail's and its own last, the tail and the head.
pub record HasAllNodes {S T : Type 0} (p : ChannelPartView S T) : Type 0 where
  pub outbound : ℕ
  pub filled : map (λ (slot : Option (ContextView S)). is_some slot) p.path.contexts ≡ replicate p.path.tail_hop true ++ false ∷ replicate outbound true
  pub tail : is_some p.path.tail ≡ true
  pub head : is_some p.head ≡ true

module _ {S T : Type 0} (world : World) (meaning : S → Meaning) (stands_after : S → List Event → Type 0) (state : T → TransportState) where
  -- The part of a channel, with all of its nodes, holds, and has done little enough to be counted.
  pub record PartStands (c : ℕ) (p : ChannelPartView S T) : Type 0 where
    pub holds : PartHolds world meaning stands_after state p
    pub channel : p.path.channel ≡ c
    pub whole : HasAllNodes p
    pub few : part_done p < 2 ^ 50

  -- So does that of each channel.
  pub record ChannelsStand (ps : List (ChannelPartView S T)) : Type 0 where
    pub parts : (c : ℕ) (p : ChannelPartView S T) → slice_get ps c ≡ Some p → PartStands c p
    pub few : length ps ≤ 2 ^ 8

-- ---- what the node of a channel does

-- The part of a channel has done this, and the others are as they were.
pub record HasMoved {S T : Type 0} (does : ChannelPartView S T → ChannelPartView S T → Type 0) (ps : List (ChannelPartView S T)) (c : ℕ) (ps' : List (ChannelPartView S T)) : Type 0 where
  pub before : ChannelPartView S T
  pub after : ChannelPartView S T
  pub was : slice_get ps c ≡ Some before
  pub becomes : ps' ≡ slice_set ps c after
  pub same : SamePart before after
  pub done : does before after

-- The part of the envelope's channel has taken it.
abbrev pub IsTakenBy : {S T : Type 0} → (S → Meaning) → (S → List Event → Type 0) → (S → Bool) → (T → TransportState) → List (ChannelPartView S T) → Envelope → OutputsView → List (ChannelPartView S T) → OutputsView → Type 0
IsTakenBy meaning stands_after is_spent state ps e before ps' after =
    HasMoved (λ (p p' : ChannelPartView _ _). (answer : Took) × PartTakes meaning stands_after is_spent state p e before answer p' after) ps e.lane.channel ps'

module _ {S T : Type 0} (state : T → TransportState) where
  -- The head of a channel has made a move.
  abbrev pub IsMovedBy : (T → ℕ → Type 0) → List (ChannelPartView S T) → HeadMove → ℕ → OutputsView → List (ChannelPartView S T) → OutputsView → Type 0
  IsMovedBy may_refuse ps by c before ps' after = HasMoved (λ (p p' : ChannelPartView S T). PartMoves state may_refuse p by before true p' after) ps c ps'

  -- It was aborted.
  abbrev pub IsAbortedBy : List (ChannelPartView S T) → ℕ → OutputsView → List (ChannelPartView S T) → OutputsView → Type 0
  IsAbortedBy ps c before ps' after = HasMoved (λ (p p' : ChannelPartView S T). PartAborts state p before p' after) ps c ps'

  -- Whether its next read step is enabled: one is left and not held, whichever steps were made.
  abbrev pub MayRead : List (ChannelPartView S T) → ℕ → Bool → Type 0
  MayRead ps c b = (p : ChannelPartView S T) (h : HeadView T) (plan : ReadPlan) (reads : ℕ) (failed : Bool) (ys zs : List Event) (sizes : List Change) → slice_get ps c ≡ Some p → p.head ≡ Some h
      → ReadsStand plan reads failed h → HeadStandsAfter state h ys zs sizes → b ≡ (has_step plan reads failed && not (is_read_held state plan reads h ys))

  -- Whether a write of its is: it would not be idle.
  abbrev pub MayWrite : List (ChannelPartView S T) → ℕ → Bool → Type 0
  MayWrite ps c b = (p : ChannelPartView S T) (h : HeadView T) (ys zs : List Event) (sizes : List Change) → slice_get ps c ≡ Some p → p.head ≡ Some h
      → HeadStandsAfter state h ys zs sizes → b ≡ not (is_idle state h ys)

  -- Whether a move of its is.
  abbrev pub MayMove : List (ChannelPartView S T) → HeadMove → ℕ → Bool → Type 0
  MayMove ps head.Read c b = MayRead ps c b
  MayMove ps head.Out c b = MayWrite ps c b
