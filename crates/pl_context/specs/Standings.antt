-- How a context, or the tail, stands.
use Rattle.std.specs.Prelude.{Bool, true, false, if◌then◌else◌, Option, Some, None}
use Rattle.pl_event.specs.declared.outcomes.Cause.{Cause}
use Rattle.pl_context.specs.declared.standing.Standing.{Standing}
use Rattle.pl_context.specs.declared.standing.Standing.TheVariants as standings

-- what stands so has ended or failed
abbrev pub is_over : Standing → Bool
is_over standings.Open = false
is_over standings.Ended = true
is_over (standings.Failed cause) = true

-- what stands so has failed
abbrev pub has_failed : Standing → Bool
has_failed standings.Open = false
has_failed standings.Ended = false
has_failed (standings.Failed cause) = true

-- why it has failed
abbrev pub cause_of : Standing → Option Cause
cause_of standings.Open = None
cause_of standings.Ended = None
cause_of (standings.Failed cause) = Some cause

-- how two nodes stand together: failed where one has, and then as the first that has; ended where one has; else open
abbrev pub together : Standing → Standing → Standing
together standings.Open other = other
together standings.Ended other = if has_failed other then other else standings.Ended
together (standings.Failed cause) other = standings.Failed cause
