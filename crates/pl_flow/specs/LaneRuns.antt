-- What stands on a list of one lane, up to what was made of it.
use Rattle.std.specs.Prelude.{◌≡◌, Bool, false, List}
use Rattle.pl_event.specs.declared.envelopes.Envelope.{Envelope}
use Rattle.pl_event.specs.Worlds.{World}
use Rattle.pl_flow.specs.Flows.{Point, IsFlow, past}

-- What stands on the list of a lane follows the point behind which it stands, and goes up to what was made; unless it is
-- cut off behind, or has stopped on the list.
pub record LaneRuns (world : World) (base : Point) (cut stopped : Bool) (items : List Envelope) (made : Point) : Type 0 where
  pub flow : cut ≡ false → IsFlow world base items
  pub up_to : cut ≡ false → stopped ≡ false → past base items ≡ made
