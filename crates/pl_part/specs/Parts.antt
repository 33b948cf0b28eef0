-- The nodes of a channel that are on one executor, with the head where that is the channel's loop: which they are, what
-- they have taken, and how far their lanes have come.
use Rattle.std.specs.Prelude.{◌≡◌, ◌≢◌, ℕ, ◌+◌, ◌==◌, ◌&&◌, ◌||◌, Bool, true, false, List, length, Option, Some, None, is_some, if◌then◌else◌}
use Rattle.std.specs.Option.{option_map_or}
use Rattle.pl_event.specs.declared.events.Event.{Event}
use Rattle.pl_event.specs.declared.envelopes.Envelope.{Envelope}
use Rattle.pl_event.specs.declared.envelopes.Lane.{Lane}
use Rattle.pl_event.specs.Hops.{same_lane, data_lane}
use Rattle.pl_event.specs.Meaning.{Meaning}
use Rattle.pl_event.specs.Worlds.{World}
use Rattle.pl_context.specs.declared.standing.Standing.{Standing}
use Rattle.pl_context.specs.declared.standing.Standing.TheVariants as standings
use Rattle.pl_context.specs.declared.standing.Took.{Took}
use Rattle.pl_context.specs.Standings.{is_over, together}
use Rattle.pl_context.specs.OutputsViews.{OutputsView}
use Rattle.pl_flow.specs.declared.head_moves.HeadMove.{HeadMove}
use Rattle.pl_flow.specs.declared.head_moves.HeadMove.TheVariants as by
use Rattle.pl_flow.specs.Flows.{Point, nowhere}
use Rattle.pl_head.specs.declared.heads.OutStep.{OutStep}
use Rattle.pl_head.specs.declared.heads.OutStep.TheVariants as step
use Rattle.pl_head.specs.declared.heads.ReadStep.{ReadStep}
use Rattle.pl_head.specs.declared.heads.ReadStep.TheVariants as reading
use Rattle.pl_head.specs.Transports.{TransportState}
use Rattle.pl_head.specs.HeadStand.{HeadView, gone_of, head_cause}
use Rattle.pl_part.specs.Paths.{PathPartView, SamePath, PathHolds, PathTakes, writer_hop, enters_path, path_over, path_standing, path_taken, path_lanes, path_writes, path_came}
use Rattle.pl_part.specs.HeadHolds.{HeadHolds, head_writes, head_came, head_taken}
use Rattle.pl_head.specs.HeadCalls.{HeadTakes, HeadReads, HeadWrites, HeadAborts}

-- nodes of one channel, perhaps with its head (ChannelPipeline)
pub record ChannelPartView (S T : Type 0) : Type 0 where
  -- the contexts and the tail
  pub path : PathPartView S
  pub head : Option (HeadView T)

-- the head's hop, behind the last context's
abbrev pub head_hop : {S T : Type 0} → ChannelPartView S T → ℕ
head_hop p = length p.path.contexts

-- what of its head's output is gone, and whether that has forgotten anything, where it is one of the nodes
abbrev pub part_gone : {S T : Type 0} → ChannelPartView S T → ℕ × Bool
part_gone p = option_map_or (λ (h : HeadView _). gone_of h) p.head (0, false)

-- the same nodes of the same channel, of which the head has forgotten no more
pub record SamePart {S T : Type 0} (p p' : ChannelPartView S T) : Type 0 where
  pub path : SamePath p.path p'.path
  pub head : is_some p'.head ≡ is_some p.head
  pub gone : part_gone p' ≡ part_gone p

-- a lane enters one of its nodes
abbrev pub has_entered : {S T : Type 0} → ChannelPartView S T → Lane → Bool
has_entered p l = if l.hop == head_hop p then is_some p.head && same_lane l (data_lane p.path.channel (head_hop p)) else enters_path p.path l

-- all of its nodes have ended or failed
abbrev pub all_over : {S T : Type 0} → ChannelPartView S T → Bool
all_over p = path_over p.path && option_map_or (λ (h : HeadView _). is_over h.standing || is_some h.failure) p.head true

-- how a head stands: failed by itself or by what it took, or else as its lane
abbrev pub head_standing : {T : Type 0} → HeadView T → Standing
head_standing h = option_map_or (λ cause. standings.Failed cause) (head_cause h) h.standing

-- how all of its nodes stand together, the head before the others
abbrev pub part_standing : {S T : Type 0} → ChannelPartView S T → Standing
part_standing p = together (option_map_or (λ (h : HeadView _). head_standing h) p.head standings.Open) (path_standing p.path)

-- a read step is left
abbrev pub has_read : {S T : Type 0} → ChannelPartView S T → Bool
has_read p = option_map_or (λ (h : HeadView _). h.input.port.is_open) p.head false

-- ---- its lanes

-- how many items of a lane its nodes have taken
abbrev pub part_taken : {S T : Type 0} → ChannelPartView S T → Lane → ℕ
part_taken p l = if l.hop == head_hop p then option_map_or (λ (h : HeadView _). head_taken h l) p.head 0 else path_taken p.path l

-- The data lanes of a part's channel. For these it needs places on a work list.
abbrev pub part_lanes : {S T : Type 0} → ChannelPartView S T → List Lane
part_lanes p = path_lanes p.path

module _ {S T : Type 0} (meaning : S → Meaning) where
  -- One of the nodes writes a lane. The head writes those of hop 0, contexts the others.
  abbrev pub part_writes : ChannelPartView S T → Lane → Bool
  part_writes p l = if l.hop == 0 then option_map_or (λ (h : HeadView T). head_writes h l) p.head false else path_writes meaning p.path l

  -- the same, of the node at a hop
  abbrev pub writes_at : ChannelPartView S T → ℕ → Lane → Bool
  writes_at p hop l = part_writes p l && (writer_hop p.path l.hop == hop)

  -- how far a lane has come
  abbrev pub part_came : ChannelPartView S T → Lane → Point
  part_came p l = if l.hop == 0 then option_map_or (λ (h : HeadView T). head_came h l) p.head nowhere else path_came meaning p.path l

module _ {S T : Type 0} (meaning : S → Meaning) (stands_after : S → List Event → Type 0) (is_spent : S → Bool) (state : T → TransportState) where
  -- The node that the envelope's lane enters takes it. The others are as they were.
  pub record PartTakes (p : ChannelPartView S T) (e : Envelope) (before : OutputsView) (answer : Took) (p' : ChannelPartView S T) (after : OutputsView) : Type 0 where
    pub path : (e.lane.hop == head_hop p) ≡ false → PathTakes meaning stands_after is_spent p.path e before answer p'.path after × (p'.head ≡ p.head)
    pub head : (h : HeadView T) → (e.lane.hop == head_hop p) ≡ true → p.head ≡ Some h
        → (h' : HeadView T) × (p'.head ≡ Some h') × HeadTakes state h e before answer h' after × (p'.path ≡ p.path)

module _ {S T : Type 0} (state : T → TransportState) where
  -- The head makes its next read step. It does where it is one of the nodes. The others are as they were.
  pub record PartReads (p : ChannelPartView S T) (before : OutputsView) (answer : ReadStep) (p' : ChannelPartView S T) (after : OutputsView) : Type 0 where
    pub head : (h : HeadView T) → p.head ≡ Some h → (h' : HeadView T) × (p'.head ≡ Some h') × HeadReads state h before answer h' after
    pub none : p.head ≡ None → (answer ≡ reading.Done) × (p' ≡ p) × (after ≡ before)
    pub path : p'.path ≡ p.path

  -- The head makes a write.
  pub record PartWrites (may_refuse : T → ℕ → Type 0) (p : ChannelPartView S T) (before : OutputsView) (answer : OutStep) (p' : ChannelPartView S T) (after : OutputsView) : Type 0 where
    pub head : (h : HeadView T) → p.head ≡ Some h → (h' : HeadView T) × (p'.head ≡ Some h') × HeadWrites state may_refuse h before answer h' after
    pub none : p.head ≡ None → (answer ≡ step.Idle) × (p' ≡ p) × (after ≡ before)
    pub path : p'.path ≡ p.path

  -- The head makes its next read step as a move, which it has made where the step gave.
  pub record ReadMoves (p : ChannelPartView S T) (before : OutputsView) (made : Bool) (p' : ChannelPartView S T) (after : OutputsView) : Type 0 where
    pub answer : ReadStep
    pub reads : PartReads p before answer p' after
    pub gave : made ≡ true → answer ≡ reading.Gave
    pub other : made ≡ false → answer ≢ reading.Gave

  -- The head makes a write as a move, which it has made where it was not idle.
  pub record OutMoves (may_refuse : T → ℕ → Type 0) (p : ChannelPartView S T) (before : OutputsView) (made : Bool) (p' : ChannelPartView S T) (after : OutputsView) : Type 0 where
    pub answer : OutStep
    pub writes : PartWrites may_refuse p before answer p' after
    pub wrote : made ≡ true → answer ≢ step.Idle
    pub idle : made ≡ false → answer ≡ step.Idle

  -- The head makes a move.
  abbrev pub PartMoves : (T → ℕ → Type 0) → ChannelPartView S T → HeadMove → OutputsView → Bool → ChannelPartView S T → OutputsView → Type 0
  PartMoves may_refuse p by.Read before made p' after = ReadMoves p before made p' after
  PartMoves may_refuse p by.Out before made p' after = OutMoves may_refuse p before made p' after

  -- The head is aborted.
  pub record PartAborts (p : ChannelPartView S T) (before : OutputsView) (p' : ChannelPartView S T) (after : OutputsView) : Type 0 where
    pub head : (h : HeadView T) → p.head ≡ Some h → (h' : HeadView T) × (p'.head ≡ Some h') × HeadAborts state h before h' after
    pub none : p.head ≡ None → (p' ≡ p) × (after ≡ before)
    pub path : p'.path ≡ p.path

module _ {S T : Type 0} (world : World) (meaning : S → Meaning) (stands_after : S → List Event → Type 0) (state : T → TransportState) where
  -- Each node holds, and stands at its hop. Each hop has an executor.
  pub record PartHolds (p : ChannelPartView S T) : Type 0 where
    pub path : PathHolds world meaning stands_after p.path
    pub head : (h : HeadView T) → p.head ≡ Some h → HeadHolds state world h × (h.channel ≡ p.path.channel) × (h.hop ≡ head_hop p)
    pub hops : length p.path.executors ≡ head_hop p + 1
