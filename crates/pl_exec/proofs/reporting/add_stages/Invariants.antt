use Rattle.std.proofs.Common.{◌≡◌, ◌++◌, length}
use Rattle.std.specs.Vec.Iter.{into_iter_items}
use Rattle.pl_exec.specs.RunStages.{filled_up}
use Rattle.pl_exec.proofs.reporting.add_stages.Given as goal

-- the first of the others are added
abbrev pub invariant-loop-other : goal.invariant-loop-other
invariant-loop-other g l = record {
  rest : l.yielded ++ into_iter_items l.other-iterator ≡ l.fn.others.items;
  at : l.hop ≡ length l.yielded;
  stages : l.stages.items ≡ filled_up l.fn.stages.items l.yielded;
}
