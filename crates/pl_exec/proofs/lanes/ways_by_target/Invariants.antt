use Rattle.std.proofs.Common.{◌≡◌, ◌++◌, ℕ, Some, length, slice_get}
use Rattle.std.specs.Global.{Vec}
use Rattle.std.specs.Vec.Iter.{into_iter_items}
use Rattle.pl_exec.specs.declared.lanes.WayIn.{WayIn}
use Rattle.pl_exec.specs.Opening.{ways_in}
use Rattle.pl_exec.proofs.WaysMade.{first-ways}
use Rattle.pl_exec.proofs.lanes.ways_by_target.Given as goal

-- The table has the ways of the first executors.
abbrev pub invariant-loop-row : goal.invariant-loop-row
invariant-loop-row l = record {
  at : l.origin ≡ length l.yielded;
  rest : l.yielded ++ into_iter_items l.row-iterator ≡ l.fn.lanes.items;
  count : length l.table.items ≡ length l.fn.lanes.items;
  made : (target : ℕ) (ways : Vec WayIn) → slice_get l.table.items target ≡ Some ways → ways_in ways.items ≡ first-ways l.fn.lanes.items l.origin target;
}
