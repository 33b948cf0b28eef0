-- Lanes that carry lines.
use Rattle.std.specs.Prelude.{◌≡◌, ◌<◌, ◌^◌, ℕ, List, length, map, Some}
use Rattle.pl_event.specs.declared.envelopes.Kind.TheVariants.{Data}
use Rattle.pl_event.specs.declared.envelopes.Lane.{Lane}
use Rattle.pl_event.specs.declared.events.Event.{Event}
use Rattle.pl_event.specs.declared.events.Event.TheVariants.{Read}
use Rattle.pl_event.specs.declared.events.Message.TheVariants.{Line}
use Rattle.pl_event.specs.Worlds.{World, content_of}

abbrev pub line_read : List ℕ → Event
line_read line = Read (Line line)

-- the world has these lines, and nothing else, on this data lane
pub record CarriesLines (world : World) (lane : Lane) (lines : List (List ℕ)) : Type 0 where
  pub few : length lines < 2 ^ 32
  pub kind : lane.kind ≡ Data
  pub content : content_of world lane ≡ Some (map line_read lines)
