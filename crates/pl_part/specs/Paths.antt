-- The nodes of a channel that are on one executor, but its head: which they are, what they have taken, and how far their
-- lanes have come.
use Rattle.std.specs.Prelude.{◌≡◌, ℕ, ◌+◌, ◌-◌, ◌<◌, ◌≤◌, ◌==◌, ◌&&◌, Bool, true, false, List, [], ◌∷◌, length, map, get_or, Option, Some, None, is_some, if◌then◌else◌}
use Rattle.std.specs.List.{list_all, range_with_len}
use Rattle.std.specs.Option.{option_map_or}
use Rattle.pl_event.specs.declared.events.Event.{Event}
use Rattle.pl_event.specs.declared.envelopes.Envelope.{Envelope}
use Rattle.pl_event.specs.declared.envelopes.Kind.TheVariants.{Flags}
use Rattle.pl_event.specs.declared.envelopes.Lane.{Lane}
use Rattle.pl_event.specs.Hops.{data_lane, flags_lane}
use Rattle.pl_event.specs.Meaning.{Meaning}
use Rattle.pl_event.specs.Paths.{is_turn}
use Rattle.pl_event.specs.Worlds.{World}
use Rattle.pl_context.specs.declared.contexts.TheConstants.{MAX_HANDLERS}
use Rattle.pl_context.specs.declared.standing.Standing.{Standing}
use Rattle.pl_context.specs.declared.standing.Standing.TheVariants as standings
use Rattle.pl_context.specs.declared.standing.Took.{Took}
use Rattle.pl_context.specs.Standings.{is_over, together}
use Rattle.pl_context.specs.ContextViews.{ContextView, IsHop, down_hop, taken_of}
use Rattle.pl_context.specs.OutputsViews.{OutputsView}
use Rattle.pl_context.specs.TailViews.{TailView, taken_of as tail_taken_of}
use Rattle.pl_flow.specs.Flows.{Point, nowhere}
use Rattle.pl_part.specs.ContextHolds.{ContextHolds, context_writes, context_came, context_lanes}
use Rattle.pl_part.specs.TailHolds.{TailHolds}
use Rattle.pl_part.specs.Taking.{ContextTakes, ContextRefused, TailTakes}

-- contexts of one channel, perhaps with its tail (ChannelPipeline)
pub record PathPartView (S : Type 0) : Type 0 where
  pub channel : ℕ
  -- the executor of each hop
  pub executors : List ℕ
  -- by hop: none where the context is elsewhere, and none at the tail's hop
  pub contexts : List (Option (ContextView S))
  pub tail : Option TailView
  pub tail_hop : ℕ
  -- the hop of the turn
  pub turn : ℕ

-- Each hop of the channel has an executor. Hops are those of the contexts, that of the tail among them, and the last,
-- which is the head's.
pub record IsPathPart (hops contexts tail_hop turn : ℕ) : Type 0 where
  pub hops_are : hops ≡ contexts + 1
  pub few : contexts ≤ MAX_HANDLERS + 1
  pub within : tail_hop < contexts
  pub turned : turn < tail_hop

-- how many events its tail has handed over, where that is one of the nodes
abbrev pub path_handed_over : {S : Type 0} → PathPartView S → ℕ
path_handed_over p = option_map_or (λ (t : TailView). t.handed) p.tail 0

-- the same nodes of the same channel, of which the tail has handed over no more
pub record SamePath {S : Type 0} (p p' : PathPartView S) : Type 0 where
  pub channel : p'.channel ≡ p.channel
  pub executors : p'.executors ≡ p.executors
  pub contexts : map (λ (slot : Option (ContextView S)). is_some slot) p'.contexts ≡ map (λ (slot : Option (ContextView S)). is_some slot) p.contexts
  pub tail : is_some p'.tail ≡ is_some p.tail
  pub tail_hop : p'.tail_hop ≡ p.tail_hop
  pub turn : p'.turn ≡ p.turn
  pub handed : path_handed_over p' ≡ path_handed_over p

-- ---- its nodes

-- The context that a hop enters. There is one where it is one of the part's.
abbrev pub context_at : {S : Type 0} → PathPartView S → ℕ → Option (ContextView S)
context_at p hop = get_or p.contexts hop None

-- The hop of the node that writes a hop's lanes. It is the one before; but the turn writes the first lane after the
-- tail's, and the head those of hop 0.
abbrev pub writer_hop : {S : Type 0} → PathPartView S → ℕ → ℕ
writer_hop p hop = if hop == 0 then length p.contexts else if hop == p.tail_hop + 1 then p.turn else hop - 1

-- a lane enters one of its nodes
abbrev pub enters_path : {S : Type 0} → PathPartView S → Lane → Bool
enters_path p l = (l.channel == p.channel) && (if l.hop == p.tail_hop then is_some p.tail else is_some (context_at p l.hop))

-- a context has ended or failed, where there is one
abbrev pub is_slot_over : {S : Type 0} → Option (ContextView S) → Bool
is_slot_over slot = option_map_or (λ (c : ContextView _). is_over c.standing) slot true

-- all of its nodes have ended or failed
abbrev pub path_over : {S : Type 0} → PathPartView S → Bool
path_over p = list_all (λ (slot : Option (ContextView _)). is_slot_over slot) p.contexts
    && option_map_or (λ (t : TailView). is_over t.standing) p.tail true

-- how contexts stand together with what stands so
abbrev pub slots_stand : {S : Type 0} → Standing → List (Option (ContextView S)) → Standing
slots_stand standing [] = standing
slots_stand standing (None ∷ slots) = slots_stand standing slots
slots_stand standing (Some c ∷ slots) = slots_stand (together standing c.standing) slots

-- how all of its nodes stand together, the tail before the contexts
abbrev pub path_standing : {S : Type 0} → PathPartView S → Standing
path_standing p = slots_stand (option_map_or (λ (t : TailView). t.standing) p.tail standings.Open) p.contexts

-- A lane is refused, and so is its writer. That is the context that writes it, where it is one of the nodes. The
-- others are as they were, and so are all of them where it is a flags lane, or one that the head writes.
pub record PathRefuses {S : Type 0} (p : PathPartView S) (l : Lane) (before : OutputsView) (p' : PathPartView S) (after : OutputsView) : Type 0 where
  pub writer : (c : ContextView S) → context_at p (writer_hop p l.hop) ≡ Some c
      → (c' : ContextView S) × (context_at p' (writer_hop p l.hop) ≡ Some c') × ContextRefused l.kind c before c' after
  pub none : context_at p (writer_hop p l.hop) ≡ None → (p' ≡ p) × (after ≡ before)
  pub flags : l.kind ≡ Flags → (p' ≡ p) × (after ≡ before)
  pub first_hop : l.hop ≡ 0 → (p' ≡ p) × (after ≡ before)
  pub others : (hop : ℕ) → (hop == writer_hop p l.hop) ≡ false → context_at p' hop ≡ context_at p hop
  pub tail_kept : p'.tail ≡ p.tail

-- ---- its lanes

-- how many items of a lane its nodes have taken
abbrev pub path_taken : {S : Type 0} → PathPartView S → Lane → ℕ
path_taken p l =
    if l.hop == p.tail_hop
    then option_map_or (λ (t : TailView). tail_taken_of t l) p.tail 0
    else option_map_or (λ (c : ContextView _). taken_of c l) (context_at p l.hop) 0

-- The data lanes of a path's channel. For these it needs places on a work list.
abbrev pub path_lanes : {S : Type 0} → PathPartView S → List Lane
path_lanes p = map (λ hop. data_lane p.channel hop) (range_with_len 0 (length p.executors))

module _ {S : Type 0} (meaning : S → Meaning) where
  -- whether one of its contexts writes a lane
  abbrev pub path_writes : PathPartView S → Lane → Bool
  path_writes p l = option_map_or (λ (c : ContextView S). context_writes (meaning c.stage).direction c l) (context_at p (writer_hop p l.hop)) false

  -- whether the context at a hop writes a lane
  abbrev pub path_writes_at : PathPartView S → ℕ → Lane → Bool
  path_writes_at p hop l = path_writes p l && (writer_hop p l.hop == hop)

  -- how far a lane has come
  abbrev pub path_came : PathPartView S → Lane → Point
  path_came p l = option_map_or (λ (c : ContextView S). context_came (meaning c.stage).direction c l) (context_at p (writer_hop p l.hop)) nowhere

  -- A context stands at its hop: inbound ones before the tail's, the turn at its own, outbound ones after the tail's.
  pub record IsAt (channel hop tail_hop turn : ℕ) (c : ContextView S) : Type 0 where
    pub channel_is : c.channel ≡ channel
    pub hop_is : c.hop ≡ hop
    pub fits : IsHop (meaning c.stage).direction hop tail_hop
    pub turned : is_turn (meaning c.stage).direction ≡ true → hop ≡ turn
    pub lanes : context_lanes c ≡ data_lane channel (hop + 1) ∷ data_lane channel (down_hop (meaning c.stage).direction hop tail_hop) ∷ flags_lane channel (hop + 1) ∷ []

  module _ (stands_after : S → List Event → Type 0) (is_spent : S → Bool) where
    -- The node that the envelope's lane enters takes it. The others are as they were.
    pub record PathTakes (p : PathPartView S) (e : Envelope) (before : OutputsView) (answer : Took) (p' : PathPartView S) (after : OutputsView) : Type 0 where
      pub context : (c : ContextView S) → (e.lane.hop == p.tail_hop) ≡ false → context_at p e.lane.hop ≡ Some c
          → (c' : ContextView S) × (context_at p' e.lane.hop ≡ Some c') × ContextTakes meaning stands_after is_spent c e before answer c' after
      pub tail : (t : TailView) → (e.lane.hop == p.tail_hop) ≡ true → p.tail ≡ Some t → (t' : TailView) × (p'.tail ≡ Some t') × TailTakes t e answer t' × (after ≡ before)
      pub others : (hop : ℕ) → (hop == e.lane.hop) ≡ false → context_at p' hop ≡ context_at p hop
      pub tail_kept : (e.lane.hop == p.tail_hop) ≡ false → p'.tail ≡ p.tail

module _ {S : Type 0} (world : World) (meaning : S → Meaning) (stands_after : S → List Event → Type 0) where
  -- Contexts and tail hold, and stand at their places. They are few.
  pub record PathHolds (p : PathPartView S) : Type 0 where
    pub contexts : (hop : ℕ) (c : ContextView S) → context_at p hop ≡ Some c → ContextHolds world meaning stands_after c × IsAt meaning p.channel hop p.tail_hop p.turn c
    pub tail : (t : TailView) → p.tail ≡ Some t → TailHolds world t × (t.channel ≡ p.channel) × (t.hop ≡ p.tail_hop)
    pub few : length p.contexts ≤ MAX_HANDLERS + 1
