-- What the calls of the nodes of a channel but its head ask for, and what they do.
use Rattle.std.specs.Prelude.{◌≡◌, ◌+◌, ◌≤◌, Bool, true, false, List, length, Some, cond}
use Rattle.pl_event.specs.declared.events.Event.{Event}
use Rattle.pl_event.specs.declared.envelopes.Envelope.{Envelope}
use Rattle.pl_event.specs.declared.envelopes.Lane.{Lane}
use Rattle.pl_event.specs.declared.envelopes.Kind.TheVariants.{Data}
use Rattle.pl_event.specs.Hops.{same_lane}
use Rattle.pl_event.specs.Meaning.{Meaning}
use Rattle.pl_event.specs.Worlds.{World}
use Rattle.pl_context.specs.declared.standing.Took.{Took}
use Rattle.pl_context.specs.Standings.{is_over}
use Rattle.pl_context.specs.ContextViews.{ContextView}
use Rattle.pl_context.specs.OutputsViews.{OutputsView}
use Rattle.pl_context.specs.Stops.{HasPlaces}
use Rattle.pl_flow.specs.Flows.{IsGood}
use Rattle.pl_flow.specs.LanesViews.{KeepsPlaces}
use Rattle.pl_flow.specs.Makes.{Makes}
use Rattle.pl_part.specs.Paths.{PathPartView, PathHolds, PathTakes, PathRefuses, SamePath, context_at, writer_hop, enters_path, path_taken, path_lanes, path_writes, path_writes_at, path_came}
use Rattle.pl_part.specs.Counts.{path_done}

-- An envelope is next for a path's nodes. It is the next of its lane, which enters one of them, and there are places
-- for what they write.
pub record IsNextOnPath {S : Type 0} (world : World) (meaning : S → Meaning) (stands_after : S → List Event → Type 0) (p : PathPartView S) (e : Envelope) (before : OutputsView) : Type 0 where
  pub holds : PathHolds world meaning stands_after p
  pub entered : enters_path p e.lane ≡ true
  pub number : e.number ≡ path_taken p e.lane
  pub good : IsGood world e
  pub places : HasPlaces before.stopped (path_lanes p)

module _ {S : Type 0} (meaning : S → Meaning) where
  -- Nodes have put something on a work list: they are the same nodes, which write the same lanes, and the places stay.
  pub record PathPuts (p : PathPartView S) (before : OutputsView) (p' : PathPartView S) (after : OutputsView) : Type 0 where
    pub same : SamePath p p'
    pub writes : (l : Lane) → path_writes meaning p' l ≡ path_writes meaning p l
    pub placed : KeepsPlaces (path_lanes p) before.stopped after.stopped

  module _ (stands_after : S → List Event → Type 0) where
    -- A node has taken an envelope. In each world where the nodes held, and where the envelope may stand, they hold again, and
    -- what they have put is the next of their lanes.
    pub record PathTaken (is_spent : S → Bool) (p : PathPartView S) (e : Envelope) (before : OutputsView) (answer : Took) (p' : PathPartView S) (after : OutputsView) : Type 0 where
      pub takes : PathTakes meaning stands_after is_spent p e before answer p' after
      pub taken : (l : Lane) → path_taken p' l ≡ cond (same_lane l e.lane) (e.number + 1) (path_taken p l)
      pub puts : PathPuts p before p' after
      pub holds : (world : World) → PathHolds world meaning stands_after p → IsGood world e → PathHolds world meaning stands_after p'
      pub made : (world : World) → PathHolds world meaning stands_after p → IsGood world e → Makes world (path_writes meaning p) (path_came meaning p) (path_came meaning p') before after
      -- it is of the lanes of that node, and no other has come further
      pub node : (world : World) → PathHolds world meaning stands_after p → IsGood world e → Makes world (path_writes_at meaning p e.lane.hop) (path_came meaning p) (path_came meaning p') before after
      pub others : (l : Lane) → path_writes_at meaning p e.lane.hop l ≡ false → path_came meaning p' l ≡ path_came meaning p l
      -- what came on the list was made, and an item more was taken
      pub more : path_done p + length after.items + 1 ≤ path_done p' + length before.items

    -- A lane was refused, in a world where lanes are, and its writer, where it is a context, has ended or failed if it is a data
    -- lane.
    pub record PathRefused (p : PathPartView S) (l : Lane) (before : OutputsView) (p' : PathPartView S) (after : OutputsView) : Type 0 where
      pub refuses : PathRefuses p l before p' after
      pub over : l.kind ≡ Data → (c : ContextView S) → context_at p' (writer_hop p' l.hop) ≡ Some c → is_over c.standing ≡ true
      pub taken : (m : Lane) → path_taken p' m ≡ path_taken p m
      pub puts : PathPuts p before p' after
      pub holds : (world : World) → world.refuses ≡ true → PathHolds world meaning stands_after p → PathHolds world meaning stands_after p'
      pub made : (world : World) → world.refuses ≡ true → PathHolds world meaning stands_after p → Makes world (path_writes meaning p) (path_came meaning p) (path_came meaning p') before after
      pub node : (world : World) → world.refuses ≡ true → PathHolds world meaning stands_after p → Makes world (path_writes_at meaning p (writer_hop p l.hop)) (path_came meaning p) (path_came meaning p') before after
      pub others : (m : Lane) → path_writes_at meaning p (writer_hop p l.hop) m ≡ false → path_came meaning p' m ≡ path_came meaning p m
      pub more : path_done p + length after.items ≤ path_done p' + length before.items
