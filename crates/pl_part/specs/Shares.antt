-- Shares of a part: of its nodes those whose executor is one of some.
use Rattle.std.specs.Prelude.{◌≡◌, ℕ, ◌≤◌, ◌==◌, ◌&&◌, Bool, List, get_or, length, cond, Option, None}
use Rattle.pl_event.specs.declared.envelopes.Lane.{Lane}
use Rattle.pl_event.specs.declared.events.Event.{Event}
use Rattle.pl_event.specs.Meaning.{Meaning}
use Rattle.pl_event.specs.Worlds.{World}
use Rattle.pl_flow.specs.Flows.{nowhere}
use Rattle.pl_head.specs.Transports.{TransportState}
use Rattle.pl_part.specs.Counts.{part_done}
use Rattle.pl_part.specs.Paths.{PathPartView, context_at, writer_hop}
use Rattle.pl_part.specs.Parts.{ChannelPartView, PartHolds, head_hop, has_entered, part_taken, part_lanes, part_writes, part_came}

-- what is there where that is wanted, else nothing
abbrev pub only_if : {A : Type 0} → Bool → Option A → Option A
only_if wanted slot = cond wanted slot None

-- the executor of what enters a hop
abbrev pub executor_of : {S : Type 0} → PathPartView S → ℕ → ℕ
executor_of p hop = get_or p.executors hop 0

-- Of a channel's contexts and its tail those whose executor is one of these; the others are none of the share's.
pub record IsPathShare {S : Type 0} (mine : ℕ → Bool) (whole share : PathPartView S) : Type 0 where
  pub channel : share.channel ≡ whole.channel
  pub executors : share.executors ≡ whole.executors
  pub tail_hop : share.tail_hop ≡ whole.tail_hop
  pub turn : share.turn ≡ whole.turn
  pub slots : length share.contexts ≡ length whole.contexts
  pub contexts : (hop : ℕ) → context_at share hop ≡ only_if (mine (executor_of whole hop)) (context_at whole hop)
  pub tail : share.tail ≡ only_if (mine (executor_of whole whole.tail_hop)) whole.tail

-- The same, with the head.
pub record IsShareBy {S T : Type 0} (mine : ℕ → Bool) (whole share : ChannelPartView S T) : Type 0 where
  pub path : IsPathShare mine whole.path share.path
  pub head : share.head ≡ only_if (mine (executor_of whole.path (head_hop whole))) whole.head

-- the share that one executor has
abbrev pub IsShare : {S T : Type 0} → ℕ → ChannelPartView S T → ChannelPartView S T → Type 0
IsShare executor whole share = IsShareBy (λ e. e == executor) whole share

module _ {S T : Type 0} (meaning : S → Meaning) (stands_after : S → List Event → Type 0) (state : T → TransportState) where
  -- These are the nodes of a channel whose executor is one of some, and hold where all of its nodes do. What they have taken, and
  -- how far the lanes have come that they write, is as it is there; of other lanes nothing was taken, and none has come.
  pub record IsShareOf (mine : ℕ → Bool) (whole share : ChannelPartView S T) : Type 0 where
    pub share_is : IsShareBy mine whole share
    pub holds : (world : World) → PartHolds world meaning stands_after state whole → PartHolds world meaning stands_after state share
    pub entered : (l : Lane) → has_entered share l ≡ (has_entered whole l && mine (executor_of whole.path l.hop))
    pub taken : (l : Lane) → part_taken share l ≡ cond (mine (executor_of whole.path l.hop)) (part_taken whole l) 0
    pub writes : (l : Lane) → part_writes meaning share l ≡ (part_writes meaning whole l && mine (executor_of whole.path (writer_hop whole.path l.hop)))
    pub came : (l : Lane) → part_came meaning share l ≡ cond (mine (executor_of whole.path (writer_hop whole.path l.hop))) (part_came meaning whole l) nowhere
    pub lanes : part_lanes share ≡ part_lanes whole
    pub done : part_done share ≤ part_done whole
