-- The nodes of an executor in the tests.
use Rattle.std.specs.Prelude.{◌≡◌, ◌≢◌, ◌<◌, ◌≤◌, ◌^◌, ◌==◌, ℕ, Bool, true, false, not, nat_le, cond, ◌||◌, ◌&&◌, List, [], ◌∷◌}
use Rattle.pl_event.specs.declared.envelopes.Lane.{Lane}
use Rattle.pl_event.specs.declared.envelopes.Kind.TheVariants.{Flags}
use Rattle.pl_event.specs.Hops.{same_kind, same_lane, flags_lane}
use Rattle.pl_flow.specs.declared.head_moves.HeadMove.{HeadMove}
use Rattle.pl_flow.specs.declared.head_moves.HeadMove.TheVariants.{Read, Out}
use Rattle.pl_flow.specs.Flows.{Point, point, nowhere}
use Rattle.pl_threads.specs.NodesViews.{OwnNodesView}
use Rattle.pl_threads_tests.specs.declared.nodes.Node.{Node}
use Rattle.pl_threads_tests.specs.declared.nodes.Outlet.{Outlet}

-- the lane on which flags come to an executor
abbrev pub lane_to : ℕ → Lane
lane_to executor = flags_lane executor executor

-- the executor that a lane enters; no executor has the number of the others
abbrev pub target_of : Lane → ℕ
target_of l = cond ((l.channel == l.hop) && same_kind l.kind Flags) l.hop 65536

-- ---- what is made

abbrev pub has_made_all : Outlet → Bool
has_made_all o = o.is_refused || nat_le o.count o.made

abbrev pub makes : Outlet → Lane → Bool
makes o l = not (o.count == 0) && same_lane l (lane_to o.target)

abbrev pub outlets_of : Node → List Lane
outlets_of n = lane_to n.first.target ∷ lane_to n.second.target ∷ []

abbrev pub writes : Node → Lane → Bool
writes n l = makes n.first l || makes n.second l

-- whether a read step is enabled, or a write
abbrev pub is_enabled : Node → HeadMove → Bool
is_enabled n Read = not n.forwards && not (has_made_all n.first && has_made_all n.second)
is_enabled n Out = false

-- how far a lane was made
abbrev pub came : Node → Lane → Point
came n l = cond (makes n.first l) (point n.first.made false) (cond (makes n.second l) (point n.second.made false) nowhere)

-- a flag was refused on a lane that goes where this one goes, so no more are made for that executor
abbrev pub has_given_up : Node → Lane → Bool
has_given_up n l = cond (l.hop == n.first.target) n.first.is_refused n.second.is_refused

-- ---- what is taken

abbrev pub taken_of : Node → Lane → ℕ
taken_of n l = cond (same_lane l (lane_to n.executor)) n.taken 0

-- the nodes, as their executor sees them
abbrev pub node_view : Node → OwnNodesView
node_view n = record {
  executor = n.executor;
  lanes = record { target = target_of; written = writes n; taken = taken_of n; came = came n; places = outlets_of n };
  heads = 1;
  was_refused = not (n.refusals == 0);
}

-- The lanes that are made go to two others.
pub record NodeStands (n : Node) : Type 0 where
  pub small : n.executor < 2 ^ 16
  pub apart : n.first.target ≢ n.second.target
  pub first : n.first.target ≢ n.executor
  pub second : n.second.target ≢ n.executor

-- all came, and all were made
pub record HasEnded (n : Node) : Type 0 where
  pub taken : n.expected ≤ n.taken
  pub first : has_made_all n.first ≡ true
  pub second : has_made_all n.second ≡ true

-- nothing was made, and nothing has come
pub record IsFresh (n : Node) : Type 0 where
  pub first : n.first.made ≡ 0
  pub second : n.second.made ≡ 0
  pub taken : n.taken ≡ 0
  pub refusals : n.refusals ≡ 0
