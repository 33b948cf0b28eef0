use Rattle.std.proofs.Common.{◌≡◌, ◌++◌, take, map, filter}
use Rattle.pl_build.specs.Counts.{executor_now}
use Rattle.pl_build.specs.Pipelines.{is_inbound}
use Rattle.pl_build.proofs.splitting.add_inbound.Given as goal

abbrev pub invariant-loop-handler : goal.invariant-loop-handler
invariant-loop-handler g l = l.executors.items ≡ l.initial.executors.items ++ map (λ handler. executor_now l.groups handler.group) (filter (is_inbound g.S.Stage.meaning) (take l.handler-index l.handlers))
