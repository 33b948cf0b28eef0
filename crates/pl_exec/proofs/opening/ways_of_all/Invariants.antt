use Rattle.std.proofs.Common.{◌≡◌, ◌++◌, length, map}
use Rattle.std.specs.Vec.Iter.{into_iter_items}
use Rattle.pl_exec.specs.Opening.{inbox_view, CanDealAll, HaveWays, LaneTable}
use Rattle.pl_exec.proofs.opening.ways_of_all.Given as goal

abbrev pub invariant-loop-column : goal.invariant-loop-column
invariant-loop-column g l = record {
  at : l.target ≡ length l.yielded;
  rest : l.yielded ++ into_iter_items l.column-iterator ≡ l.fn.columns.items;
  count : length l.rows.items ≡ length l.inboxes;
  ways : (lanes : LaneTable) → CanDealAll g.M.Mailbox.ends lanes (map inbox_view l.inboxes) l.fn.columns.items l.places → HaveWays lanes l.places l.target l.rows.items;
}
