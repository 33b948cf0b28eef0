-- What an executor sees of its own nodes, and what no call of them changes.
use Rattle.std.specs.Prelude.{◌≡◌, ℕ, Bool, false}
use Rattle.pl_event.specs.declared.envelopes.Envelope.{Envelope}
use Rattle.pl_event.specs.declared.envelopes.Lane.{Lane}
use Rattle.pl_event.specs.Worlds.{World}
use Rattle.pl_context.specs.OutputsViews.{OutputsView}
use Rattle.pl_flow.specs.declared.head_moves.HeadMove.{HeadMove}
use Rattle.pl_flow.specs.LanesViews.{LanesView, SameRoutes}
use Rattle.pl_flow.specs.Makes.{Makes}

-- What an executor sees of its own nodes (EventExecutor). It is the executor that they are on, their lanes, how many heads are
-- among them, and whether one of them has failed by a refusal.
pub record OwnNodesView : Type 0 where
  pub executor : ℕ
  pub lanes : LanesView
  pub heads : ℕ
  pub was_refused : Bool

-- What nodes do (ChannelHandler). It is what a node makes of an item that it takes, what becomes of the node that writes a
-- lane where an item of that is refused, and what the head of the channel at a position does in a move, with the work list
-- before and after. A context whose data lane was refused has given up: it has ended or failed.
pub record NodesActs (N : Type 0) : Type 1 where
  pub takes : N → Envelope → OutputsView → N → OutputsView → Type 0
  pub refuses : N → Lane → OutputsView → N → OutputsView → Type 0
  pub gave_up : N → Lane → Type 0
  pub moves : N → HeadMove → ℕ → OutputsView → N → OutputsView → Type 0

-- What no call of the nodes changes. Those are the nodes' executor, where each lane goes, which are written, for which they
-- need places, and how many heads there are.
pub record NodesKeep (v v' : OwnNodesView) : Type 0 where
  pub executor : v'.executor ≡ v.executor
  pub routes : SameRoutes v.lanes v'.lanes
  pub heads : v'.heads ≡ v.heads

-- what nodes have put on a list is next on the lanes that they write
abbrev pub LanesMake : World → LanesView → OutputsView → LanesView → OutputsView → Type 0
LanesMake world v before v' after = Makes world v.written v.came v'.came before after

-- of a lane that others write nothing was taken
abbrev pub TakesOwn : LanesView → LanesView → Type 0
TakesOwn v v' = (l : Lane) → v.written l ≡ false → v'.taken l ≡ v.taken l
