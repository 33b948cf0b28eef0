-- The nodes of an executor, as contracts see them: by the number of a channel the part of it that is there.
use Rattle.std.specs.Prelude.{◌≡◌, ℕ, ◌+◌, ◌<◌, ◌≤◌, ◌^◌, ◌==◌, Bool, true, false, List, [], ◌∷◌, get_or, length, map, nat_lt, replicate, slice_get, Option, Some, None, is_some, if◌then◌else◌}
use Rattle.std.specs.List.{enumerate_from, range_with_len}
use Rattle.std.specs.Option.{option_map_or}
use Rattle.pl_event.specs.declared.events.Event.{Event}
use Rattle.pl_event.specs.declared.envelopes.Kind.TheVariants as kind
use Rattle.pl_event.specs.declared.envelopes.Lane.{Lane}
use Rattle.pl_event.specs.Meaning.{Meaning}
use Rattle.pl_event.specs.Worlds.{World}
use Rattle.pl_context.specs.ContextViews.{ContextView}
use Rattle.pl_context.specs.OutputsViews.{OutputsView}
use Rattle.pl_context.specs.Standings.{is_over}
use Rattle.pl_flow.specs.LanesViews.{LanesView}
use Rattle.pl_flow.specs.declared.head_moves.HeadMove.{HeadMove}
use Rattle.pl_head.specs.Marks.{Change}
use Rattle.pl_head.specs.Transports.{TransportState}
use Rattle.pl_head.specs.declared.inputs.ReadPlan.{ReadPlan}
use Rattle.pl_head.specs.HeadStand.{HeadView, HeadStandsAfter, is_idle}
use Rattle.pl_head.specs.ReadSteps.{plan_steps}
use Rattle.pl_part.specs.Paths.{PathRefuses, context_at, writer_hop}
use Rattle.pl_part.specs.Parts.{ChannelPartView, PartHolds, head_hop, all_over, has_read}
use Rattle.pl_channel.specs.WholeParts.{turn_hop}
use Rattle.pl_channel.specs.PlanStand.{PartsKeepPlan}
use Rattle.pl_threads.specs.NodesViews.{OwnNodesView}
use Rattle.pl_threads.specs.Serving.{Served}
use Rattle.pl_channel.specs.Channels.{HasMoved, MayMove, executor_at, is_hop, lanes_view}
use Rattle.pl_world.specs.Plans.{ChannelPlan, Plan, planned_head_hop, read_plan, tail_hop}
use Rattle.pl_exec.specs.declared.nodes.ExecutorNodes.{ExecutorNodes}
use Rattle.pl_exec.specs.ChannelRows.{IsChannelRow, by_channel, row_position}

-- ---- the parts of channels

-- the part of a channel that has no node on an executor
abbrev pub part_elsewhere : {S T : Type 0} → ℕ → ChannelPlan → ChannelPartView S T
part_elsewhere c p = record {
  path = record {
    channel = c;
    executors = p.executors;
    contexts = replicate (planned_head_hop p) None;
    tail = None;
    tail_hop = tail_hop p;
    turn = turn_hop p;
  };
  head = None;
}

-- those of the channels of a plan, by number
abbrev pub parts_elsewhere : {S T : Type 0} → Plan → List (ChannelPartView S T)
parts_elsewhere plan = map (λ z. part_elsewhere z.0 z.1) (enumerate_from 0 plan.channels)

-- by channel the part of it that is on an executor
abbrev pub channel_parts : {S T : Type 0} → Plan → ExecutorNodes S T → List (ChannelPartView S T)
channel_parts plan n = by_channel (λ other part. part) n.here.items n.parts.items (parts_elsewhere plan)

-- the channels whose heads are there
abbrev pub own_channels : {S T : Type 0} → ExecutorNodes S T → List ℕ
own_channels n = map (λ k. get_or n.here.items k 0) n.heads.items

-- Its row of channels has a part for each, and a slot for seats; and of each channel the position is known.
pub record AreInOrder {S T : Type 0} (channels : ℕ) (n : ExecutorNodes S T) : Type 0 where
  pub row : IsChannelRow channels n.here.items
  pub parts : length n.parts.items ≡ length n.here.items
  pub seats : length n.seats.items ≡ length n.here.items
  pub positions : n.positions.items ≡ map (row_position n.here.items) (range_with_len 0 channels)

-- ---- where lanes go

-- no executor has this number
abbrev pub nobody : ℕ
nobody = 2 ^ 16

-- the executor of the node that a lane enters
abbrev pub enters : {S T : Type 0} → ChannelPartView S T → Lane → ℕ
enters p l = if is_hop p l then executor_at p l.hop else nobody

-- by lane, where it has a channel
abbrev pub entered_executor : {S T : Type 0} → List (ChannelPartView S T) → Lane → ℕ
entered_executor ps l = option_map_or (λ (p : ChannelPartView _ _). enters p l) (slice_get ps l.channel) nobody

-- the lanes of the parts that are on an executor
abbrev pub lanes_here : {S T : Type 0} → (S → Meaning) → List (ChannelPartView S T) → LanesView
lanes_here meaning ps = lanes_view meaning (entered_executor ps) ps

-- the nodes of an executor, as it sees them
abbrev pub own_view : {S T : Type 0} → Plan → (S → Meaning) → ExecutorNodes S T → OwnNodesView
own_view plan meaning n = record {
  executor = n.number;
  lanes = lanes_here meaning (channel_parts plan n);
  heads = length n.heads.items;
  was_refused = n.was_refused;
}

-- ---- which nodes are here

-- the node at a hop is one of the part's
abbrev pub has_node : {S T : Type 0} → ChannelPartView S T → ℕ → Bool
has_node p hop = if hop == head_hop p then is_some p.head else if hop == p.path.tail_hop then is_some p.path.tail else is_some (context_at p.path hop)

-- A part has the nodes of its channel whose executor this is, and no others.
pub record IsResident {S T : Type 0} (me : ℕ) (p : ChannelPartView S T) : Type 0 where
  pub nodes : (hop : ℕ) → hop ≤ head_hop p → has_node p hop ≡ (executor_at p hop == me)

-- no context of it has failed by a refusal
abbrev pub NoneRefused : {S T : Type 0} → ChannelPartView S T → Type 0
NoneRefused p = (hop : ℕ) (c : ContextView _) → context_at p.path hop ≡ Some c → c.failed_by_call ≡ false

module _ {S T : Type 0} (world : World) (meaning : S → Meaning) (stands_after : S → List Event → Type 0) (state : T → TransportState) where
  -- The part of a channel that is on an executor. Something of a lane that one of its contexts writes was refused, or not.
  pub record ShareStands (me : ℕ) (refused : Bool) (c : ℕ) (p : ChannelPartView S T) : Type 0 where
    pub holds : PartHolds world meaning stands_after state p
    pub channel : p.path.channel ≡ c
    pub within : p.path.tail_hop < head_hop p
    pub resident : IsResident me p
    pub called : refused ≡ false → NoneRefused p

-- The nodes that are on an executor hold in a world, and go on as the plan has them.
pub record NodesStand {S T : Type 0} (world : World) (plan : Plan) (meaning : S → Meaning) (stands_after : S → List Event → Type 0) (state : T → TransportState) (me : ℕ) (refused : Bool) (ps : List (ChannelPartView S T)) : Type 0 where
  pub parts : (c : ℕ) (p : ChannelPartView S T) → slice_get ps c ≡ Some p → ShareStands world meaning stands_after state me refused c p
  pub keeps : PartsKeepPlan state plan ps
  pub number : me < nobody

-- ---- which contexts have given up

-- the context that writes a data lane, where it is here, has ended or failed
abbrev pub HasGivenUp : {S T : Type 0} → List (ChannelPartView S T) → Lane → Type 0
HasGivenUp ps l =
    (p : ChannelPartView _ _) (c : ContextView _) → slice_get ps l.channel ≡ Some p → l.kind ≡ kind.Data → context_at p.path (writer_hop p.path l.hop) ≡ Some c → is_over c.standing ≡ true

-- ---- what is refused

-- Of a channel's part an item of a lane is refused: the context that writes the lane fails, where it brings data. The head, and
-- who writes flags, go on.
pub record PartRefuses {S T : Type 0} (p : ChannelPartView S T) (l : Lane) (before : OutputsView) (p' : ChannelPartView S T) (after : OutputsView) : Type 0 where
  pub path : PathRefuses p.path l before p'.path after
  pub head : p'.head ≡ p.head

-- The part of the lane's channel has refused it so.
abbrev pub IsRefusedBy : {S T : Type 0} → List (ChannelPartView S T) → Lane → OutputsView → List (ChannelPartView S T) → OutputsView → Type 0
IsRefusedBy ps l before ps' after = HasMoved (λ (p p' : ChannelPartView _ _). PartRefuses p l before p' after) ps l.channel ps'

-- ---- which heads are here

-- the numbers of those that are true, the first of which has this number
abbrev pub numbered_from : ℕ → List Bool → List ℕ
numbered_from n [] = []
numbered_from n (b ∷ bs) = if b then n ∷ numbered_from (n + 1) bs else numbered_from (n + 1) bs

-- the positions of these parts that have their heads, in order
abbrev pub heads_of : {S T : Type 0} → List (ChannelPartView S T) → List ℕ
heads_of ps = numbered_from 0 (map (λ (p : ChannelPartView _ _). is_some p.head) ps)

-- ---- how often they were served

-- How many read steps a head has made by its plan. One that brings a failure closes the lane before all were made.
abbrev pub reads_made : {T : Type 0} → ReadPlan → HeadView T → ℕ
reads_made p h = h.input.steps + (if h.input.port.is_open then 0 else (if nat_lt h.input.steps (plan_steps p) then 1 else 0))

-- so by the plan of its channel
abbrev pub planned_reads : {T : Type 0} → Option ChannelPlan → HeadView T → ℕ
planned_reads q h = option_map_or (λ (p : ChannelPlan). reads_made (read_plan p) h) q 0

-- how often its head has read and written
abbrev pub served_by : {S T : Type 0} → (T → TransportState) → Option ChannelPlan → ChannelPartView S T → Served
served_by state q p = option_map_or (λ (h : HeadView _). record { reads = planned_reads q h; calls = (state h.transport).calls }) p.head (record { reads = 0; calls = 0 })

-- by channel, where it has a part
abbrev pub served_of : {S T : Type 0} → (T → TransportState) → Plan → List (ChannelPartView S T) → ℕ → Served
served_of state plan ps c = option_map_or (λ (p : ChannelPartView _ _). served_by state (slice_get plan.channels c) p) (slice_get ps c) (record { reads = 0; calls = 0 })

-- ---- what is enabled

module _ {S T : Type 0} (state : T → TransportState) where
  -- Whether a move of a channel's head is enabled: none is where the head is elsewhere.
  pub record MayMoveHere (ps : List (ChannelPartView S T)) (by : HeadMove) (c : ℕ) (b : Bool) : Type 0 where
    pub here : MayMove state ps by c b
    pub elsewhere : (p : ChannelPartView S T) → slice_get ps c ≡ Some p → p.head ≡ None → b ≡ false

  -- Whether it is for the channel at a position of this list.
  pub record MayMoveOwn (ps : List (ChannelPartView S T)) (own : List ℕ) (by : HeadMove) (at : ℕ) (b : Bool) : Type 0 where
    pub channel : ℕ
    pub is : slice_get own at ≡ Some channel
    pub may : MayMoveHere ps by channel b

  -- All nodes of a part have ended or failed; where the head is one of them, no read step and no flushed byte is left.
  pub record IsPartOver (p : ChannelPartView S T) : Type 0 where
    pub over : all_over p ≡ true
    pub read : has_read p ≡ false
    pub written : (h : HeadView T) (ys zs : List Event) (sizes : List Change) → p.head ≡ Some h → HeadStandsAfter state h ys zs sizes → is_idle state h ys ≡ true

  -- So it is with all parts.
  abbrev pub AreOver : List (ChannelPartView S T) → Type 0
  AreOver ps = (c : ℕ) (p : ChannelPartView S T) → slice_get ps c ≡ Some p → IsPartOver p
