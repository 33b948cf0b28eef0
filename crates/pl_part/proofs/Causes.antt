-- The first of two causes is one that comes in the world, where each of them is.
use Rattle.std.proofs.Common.{Option, Some, None}
use Rattle.pl_event.specs.declared.outcomes.Cause.{Cause}
use Rattle.pl_event.specs.Worlds.{World}
use Rattle.pl_head.specs.HeadStand.{first_cause}
use Rattle.pl_part.specs.TailHolds.{MayFailFor}

pub may-first : (world : World) (f later : Option Cause) → MayFailFor world f → MayFailFor world later → MayFailFor world (first_cause f later)
may-first world (Some c) later first second = first
may-first world None later first second = second
