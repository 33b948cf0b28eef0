use Rattle.std.proofs.Common.{◌≡◌, ◌+◌, ◌≤◌, drop, sum_by}
use Rattle.pl_build.specs.declared.limits.TheConstants.{MAX_EXECUTORS}
use Rattle.pl_build.specs.Counts.{executor_from}
use Rattle.pl_build.proofs.grouping.executor_from.Given as goal

abbrev pub invariant-loop-group : goal.invariant-loop-group
invariant-loop-group l = (l.first + sum_by (λ group. group.size) (drop l.group-index l.groups) ≤ MAX_EXECUTORS)
    × (executor_from l.first (drop l.group-index l.groups) l.name ≡ executor_from l.fn.first l.groups l.name)
