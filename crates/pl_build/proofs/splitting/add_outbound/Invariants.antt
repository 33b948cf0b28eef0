use Rattle.std.proofs.Common.{◌≡◌, ◌++◌, map, filter, reverse, length}
use Rattle.pl_build.specs.Counts.{executor_now}
use Rattle.pl_build.specs.Pipelines.{is_outbound_stage}
use Rattle.pl_build.proofs.splitting.add_outbound.Given as goal

abbrev pub invariant-loop-last : goal.invariant-loop-last
invariant-loop-last g l =
    l.executors.items ++ map (λ handler. executor_now l.groups handler.group) (reverse (filter (is_outbound_stage g.S.Stage.meaning) l.left))
    ≡ l.initial.executors.items ++ map (λ handler. executor_now l.groups handler.group) (reverse (filter (is_outbound_stage g.S.Stage.meaning) l.handlers))

abbrev pub decreases-loop-last : goal.decreases-loop-last
decreases-loop-last g l = length l.left
