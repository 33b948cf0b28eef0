use Rattle.std.proofs.Common.{◌≡◌, ◌++◌, ℕ, Some, length, slice_get}
use Rattle.std.specs.Global.{Vec}
use Rattle.std.specs.Vec.Iter.{into_iter_items}
use Rattle.pl_exec.specs.declared.lanes.WayIn.{WayIn}
use Rattle.pl_exec.specs.Opening.{AreBefore, lanes_with, way_if, ways_in}
use Rattle.pl_exec.proofs.lanes.add_origin.Given as goal

-- The table has the ways by the first lanes.
abbrev pub invariant-loop-leaving : goal.invariant-loop-leaving
invariant-loop-leaving l = record {
  rest : l.yielded ++ into_iter_items l.leaving-iterator ≡ l.fn.lanes.items;
  count : length l.table.items ≡ length l.fn.table.items;
  added : (target : ℕ) (before after : Vec WayIn) → slice_get l.fn.table.items target ≡ Some before → slice_get l.table.items target ≡ Some after → AreBefore l.origin (ways_in before.items)
      → ways_in after.items ≡ ways_in before.items ++ way_if target l.origin (lanes_with l.yielded target);
}
