use Rattle.std.proofs.Common.{◌≡◌, ◌++◌, map}
use Rattle.pl_event.specs.Inputs.{element_event}
use Rattle.pl_world.proofs.recorded_events.add_burst.Given as goal

-- the event of each element so far
abbrev pub invariant-loop-element : goal.invariant-loop-element
invariant-loop-element l = l.events.items ≡ l.fn.events.items ++ map element_event l.yielded
