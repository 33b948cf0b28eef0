use Rattle.std.proofs.Common.{◌≡◌, replicate}
use Rattle.pl_exec.specs.Reported.{nothing_found}
use Rattle.pl_exec.proofs.reporting.none_found.Given as goal

abbrev pub invariant-loop-channel : goal.invariant-loop-channel
invariant-loop-channel g l = l.found.items ≡ replicate l._channel nothing_found
