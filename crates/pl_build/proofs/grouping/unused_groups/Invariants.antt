use Rattle.std.proofs.Common.{◌≡◌, take, map}
use Rattle.pl_build.proofs.grouping.unused_groups.Given as goal

abbrev pub invariant-loop-group : goal.invariant-loop-group
invariant-loop-group l = l.unused.items ≡ map (λ group. record { name = group.0.now; size = group.1; next = 0 }) (take l.group-index l.groups)
