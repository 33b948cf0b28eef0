use Rattle.std.proofs.Common.{◌≡◌, ◌++◌, length}
use Rattle.std.specs.Vec.Iter.{into_iter_items}
use Rattle.pl_exec.specs.RunStages.{slots_in}
use Rattle.pl_exec.proofs.LeftEnds.{AreFound}
use Rattle.pl_exec.proofs.LeftStages.{AreFoundRows}
use Rattle.pl_exec.proofs.reporting.ran_of.Given as goal

-- The ends and the stages on the executors so far are found.
abbrev pub invariant-loop-executor : goal.invariant-loop-executor
invariant-loop-executor g l = record {
  rest : l.yielded ++ into_iter_items l.executor-iterator ≡ l.fn.finished.items;
  found : AreFound g.T.Transport.state g.W.Planned.plan (length l.yielded) l.found.items;
  stages : AreFoundRows g.S.Stage.stands_after g.W.Planned.plan (length l.yielded) (slots_in l.stages.items);
}
