use Rattle.std.proofs.Common.{◌≡◌, ◌≤◌, ℕ, length}
use Rattle.pl_queue.specs.Positions.{row_at}
use Rattle.pl_queue.proofs.positions.add_rows.Given as goal

abbrev pub invariant-loop : goal.invariant-loop
invariant-loop l = record {
  same : (n : ℕ) → row_at l.rows.items n ≡ row_at l.fn.rows.items n;
  long : l.counter ≤ length l.rows.items;
}
