use Rattle.std.specs.Global.{Vec}
use Rattle.std.proofs.Common.{◌≡◌, ◌≤◌, ◌++◌, ℕ, drop, length, map, slice_get, Some}
use Rattle.pl_threads.specs.Running.{ExecutorView}
use Rattle.pl_exec.specs.Opening.{inbox_view, CanDealAll, HasWays, IsFirst, LaneTable, WaysView}
use Rattle.pl_exec.proofs.opening.executors.Given as goal

abbrev pub invariant-loop-own_ends : goal.invariant-loop-own_ends
invariant-loop-own_ends g l = record {
  at : l.number ≡ length l.executors.items;
  own : drop l.number l.fn.ends.items ≡ l.own_ends-iterator.a.rest.items;
  ways_count : length l.rows.items ≡ length l.inboxes;
  ways : (lanes : LaneTable) → CanDealAll g.M.Mailbox.ends lanes (map inbox_view l.inboxes) l.fn.columns.items l.places → (y : ℕ) (v : WaysView) (row : Vec ℕ) → l.number ≤ y → slice_get l.rows.items y ≡ Some v → slice_get l.places y ≡ Some row
      → HasWays lanes y row.items (length lanes) v;
  parts : map (λ e. e.0.nodes) l.executors.items ++ l.own_ends-iterator.b.rest.items ≡ l.fn.nodes.items;
  first : (y : ℕ) (e : ExecutorView g.row.N.Denot) → slice_get (map (λ x. x.0) l.executors.items) y ≡ Some e → IsFirst y e;
}
