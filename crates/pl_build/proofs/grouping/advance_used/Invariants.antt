use Rattle.std.proofs.Common.{◌≡◌, ◌++◌, take, drop}
use Rattle.pl_build.specs.Executors.{groups_of}
use Rattle.pl_build.specs.Counts.{groups_after}
use Rattle.pl_build.proofs.grouping.advance_used.Given as goal

abbrev pub invariant-loop-group : goal.invariant-loop-group
invariant-loop-group g l = l.groups ≡ groups_after (take l.group-index l.initial.groups) (groups_of l.handlers) ++ drop l.group-index l.initial.groups
