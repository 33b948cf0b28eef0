use Rattle.std.proofs.Common.{◌≡◌, ℕ, map, replicate}
use Rattle.pl_channel.proofs.lane_counts.no_places.Given as goal

abbrev pub invariant-loop : goal.invariant-loop
invariant-loop l = map (λ row. row.items) l.table.items ≡ replicate l.counter (replicate {A = ℕ} l.count 0)
