use Rattle.std.proofs.Common.{◌≡◌, [], replicate}
use Rattle.pl_exec.proofs.words.no_sights.Given as goal

abbrev pub invariant-loop-number : goal.invariant-loop-number
invariant-loop-number l = l.all.items ≡ replicate l.number []
