use Rattle.std.proofs.Common.{◌≡◌}
use Rattle.pl_event.specs.Inputs.{recorded_input}
use Rattle.pl_world.proofs.recorded_events.recorded_events.Given as goal

-- the events of the bursts so far
abbrev pub invariant-loop-elements : goal.invariant-loop-elements
invariant-loop-elements l = l.events.items ≡ recorded_input l.yielded
