-- An event that a stage changes in its place.
use Rattle.std.specs.Prelude.{List, [], ◌∷◌}
use Rattle.pl_event.specs.declared.events.Event.{Event}
use Rattle.pl_event.specs.declared.stages.Direction.{Direction}
use Rattle.pl_event.specs.declared.stages.Direction.TheVariants.{Inbound, Outbound, Turn}
use Rattle.pl_event.specs.declared.stages.Changed.{Changed}
use Rattle.pl_event.specs.declared.stages.Changed.TheVariants.{No, Up, Down}

-- which way an event goes on that a stage of this direction has changed in its place
abbrev pub way_of : Direction → Changed
way_of Inbound = Up
way_of Turn = Up
way_of Outbound = Down

-- what goes up of an event that was changed in its place
abbrev pub changed_up : Changed → Event → List Event
changed_up No x = []
changed_up Up x = x ∷ []
changed_up Down x = []

-- what goes down of an event that was changed in its place
abbrev pub changed_down : Changed → Event → List Event
changed_down No x = []
changed_down Up x = []
changed_down Down x = x ∷ []
