-- What a chain of handlers makes toward either end of its pipeline.
use Rattle.std.specs.Prelude.{List}
use Rattle.std.specs.Global.{Vec}
use Rattle.pl_event.specs.declared.events.Event.{Event}
use Rattle.pl_event.specs.Meaning.{Meaning, up_of, down_of}
use Rattle.pl_world.specs.declared.chains.Made.{Made}
use Rattle.pl_world.specs.declared.chains.Toward.{Toward}
use Rattle.pl_world.specs.declared.chains.Toward.TheVariants.{Head, Tail}

-- what a handler makes of a list of events toward an end: upwards to the tail, downwards to the head
abbrev pub made_toward : Toward → Meaning → List Event → List Event
made_toward Head = down_of
made_toward Tail = up_of

-- the list of what was made that goes toward an end
abbrev pub part_toward : Toward → Made → Vec Event
part_toward Head made = made.down
part_toward Tail made = made.up
