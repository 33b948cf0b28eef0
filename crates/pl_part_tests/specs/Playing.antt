-- A part and its work list, between two calls: what waits for a node is what that takes next.
use Rattle.std.specs.Prelude.{◌≡◌, ℕ, List, [], Bool, true, false}
use Rattle.pl_event.specs.declared.events.Event.{Event}
use Rattle.pl_event.specs.declared.envelopes.Envelope.{Envelope}
use Rattle.pl_event.specs.declared.envelopes.Lane.{Lane}
use Rattle.pl_event.specs.Meaning.{Meaning}
use Rattle.pl_event.specs.Worlds.{World}
use Rattle.pl_context.specs.Stops.{HasPlaces, has_stopped}
use Rattle.pl_context.specs.OutputsViews.{OutputsView}
use Rattle.pl_flow.specs.Flows.{Point, point, on, IsFlow, past}
use Rattle.pl_head.specs.Transports.{TransportState}
use Rattle.pl_part.specs.Parts.{ChannelPartView, PartHolds, has_entered, part_taken, part_lanes, part_writes, part_came}

-- The items of a lane that wait follow those that were taken of it, up to where its writer has come. Of other lanes none waits.
pub record Waits (world : World) (writes stopped : Bool) (taken : ℕ) (items : List Envelope) (came : Point) : Type 0 where
  pub over : Bool
  pub flow : IsFlow world (point taken over) items
  pub idle : writes ≡ false → items ≡ []
  pub up_to : writes ≡ true → stopped ≡ false → past (point taken over) items ≡ came

module _ {S T : Type 0} (world : World) (meaning : S → Meaning) (stands_after : S → List Event → Type 0) (state : T → TransportState) where
  pub record Plays (p : ChannelPartView S T) (w : OutputsView) : Type 0 where
    pub holds : PartHolds world meaning stands_after state p
    pub lanes : (l : Lane) → has_entered p l ≡ true → Waits world (part_writes meaning p l) (has_stopped w.stopped l) (part_taken p l) (on l w.items) (part_came meaning p l)
    pub places : HasPlaces w.stopped (part_lanes p)
