-- What executors see of their nodes: which of them has what, how many items were taken, and how far lanes have come.
use Rattle.std.specs.Prelude.{◌≡◌, ℕ, ◌+◌, ◌≤◌, ◌<◌, ◌^◌, Bool, false, ◌==◌, ◌&&◌, length}
use Rattle.pl_event.specs.declared.envelopes.Envelope.{Envelope}
use Rattle.pl_event.specs.declared.envelopes.Lane.{Lane}
use Rattle.pl_event.specs.Worlds.{World}
use Rattle.pl_context.specs.OutputsViews.{OutputsView}
use Rattle.pl_flow.specs.LanesViews.{LanesView, SameRoutes, KeepsPlaces, taken_with}
use Rattle.pl_flow.specs.Makes.{Makes}

-- What executors see of their nodes (EventExecutorGroup). It is how many channels there are; by channel the executor of its
-- head; by lane the executor on which it is written. Then the lanes of all nodes; and how much was done: items taken and
-- items made.
pub record NodesView : Type 0 where
  pub channels : ℕ
  pub home : ℕ → ℕ
  pub origin : Lane → ℕ
  pub lanes : LanesView
  pub work_done : ℕ

-- a node on this executor writes the lane
abbrev pub written_by : NodesView → ℕ → Lane → Bool
written_by v x l = v.lanes.written l && (v.origin l == x)

-- Nodes on one executor have put something on a work list.
pub record NodesPut (v : NodesView) (x : ℕ) (before : OutputsView) (v' : NodesView) (after : OutputsView) : Type 0 where
  pub home : v'.home ≡ v.home
  pub origin : v'.origin ≡ v.origin
  pub routes : SameRoutes v.lanes v'.lanes
  pub others : (l : Lane) → written_by v x l ≡ false → v'.lanes.came l ≡ v.lanes.came l
  pub placed : KeepsPlaces v.lanes.places before.stopped after.stopped
  pub few : v'.work_done < 2 ^ 62

-- Nodes have taken an item, and put something.
pub record NodesTake (v : NodesView) (e : Envelope) (before : OutputsView) (v' : NodesView) (after : OutputsView) : Type 0 where
  pub puts : NodesPut v (v.lanes.target e.lane) before v' after
  pub taken : v'.lanes.taken ≡ taken_with v.lanes.taken e
  pub more : v.work_done + length after.items + 1 ≤ v'.work_done + length before.items
  pub longer : length before.items ≤ length after.items

-- Nodes have put something, and taken nothing.
pub record NodesGive (v : NodesView) (x : ℕ) (before : OutputsView) (v' : NodesView) (after : OutputsView) : Type 0 where
  pub puts : NodesPut v x before v' after
  pub taken : v'.lanes.taken ≡ v.lanes.taken
  pub more : v.work_done + length after.items ≤ v'.work_done + length before.items

-- What nodes have put is next on its lanes. It is so lane by lane, of the lanes that are written on that executor.
abbrev pub NodesMake : World → NodesView → ℕ → OutputsView → NodesView → OutputsView → Type 0
NodesMake world v x before v' after = Makes world (written_by v x) v.lanes.came v'.lanes.came before after

-- The head of a channel was called, and has given what it put.
pub record HeadGives {N : Type 0} (view_of : N → NodesView) (Stands : World → N → Type 0) (nodes : N) (channel : ℕ) (before : OutputsView) (nodes' : N) (after : OutputsView) : Type 0 where
  -- it has put that on its own executor, and taken nothing
  pub view : NodesGive (view_of nodes) ((view_of nodes).home channel) before (view_of nodes') after
  -- where the nodes stood they stand
  pub stands : (world : World) → Stands world nodes → Stands world nodes'
  -- and what it has put is next on its lanes
  pub makes : (world : World) → Stands world nodes → NodesMake world (view_of nodes) ((view_of nodes).home channel) before (view_of nodes') after
