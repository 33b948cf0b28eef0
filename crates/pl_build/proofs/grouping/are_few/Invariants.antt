use Rattle.std.proofs.Common.{◌≡◌, ◌+◌, take, sum_by}
use Rattle.pl_build.specs.declared.limits.TheConstants.{MAX_EXECUTORS}
use Rattle.pl_build.proofs.grouping.are_few.Given as goal

abbrev pub invariant-loop-group : goal.invariant-loop-group
invariant-loop-group l = l.loops + sum_by (λ group. group.1) (take l.group-index l.groups) + l.left ≡ MAX_EXECUTORS
