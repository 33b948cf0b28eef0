use Rattle.std.proofs.Common.{◌≡◌, ◌++◌, map}
use Rattle.pl_event.specs.declared.outcomes.Outcome.TheVariants.{Closed}
use Rattle.pl_head.specs.Writes.{late_outcome}
use Rattle.pl_world.proofs.settling.Writes.close.Given as goal

-- the writes so far are closed
abbrev pub invariant-loop-write : goal.invariant-loop-write
invariant-loop-write l = l.outcomes.items ≡ l.fn.self.outcomes.items ++ map (late_outcome Closed) l.yielded
