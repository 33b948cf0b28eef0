use Rattle.std.proofs.Common.{◌≡◌, [], length}
use Rattle.std.specs.Prelude.{All}
use Rattle.pl_exec.proofs.lanes.empty_lists.Given as goal

abbrev pub invariant-loop-number : goal.invariant-loop-number
invariant-loop-number g l = record {
  count : length l.lists.items ≡ l._number;
  none : All (λ list. list.items ≡ []) l.lists.items;
}
