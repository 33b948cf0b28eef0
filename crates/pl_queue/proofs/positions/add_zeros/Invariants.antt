use Rattle.std.proofs.Common.{◌≡◌, ◌≤◌, ℕ, length, get_or}
use Rattle.pl_queue.proofs.positions.add_zeros.Given as goal

abbrev pub invariant-loop : goal.invariant-loop
invariant-loop l = record {
  same : (n : ℕ) → get_or l.row.items n 0 ≡ get_or l.fn.row.items n 0;
  long : l.counter ≤ length l.row.items;
}
