use Rattle.std.proofs.Common.{map}
use Rattle.pl_channel.specs.Ways.{Counts}
use Rattle.pl_channel.proofs.CountedParts.{hops_before}
use Rattle.pl_channel.proofs.lane_counts.count_part.Given as goal

abbrev pub invariant-loop-hop : goal.invariant-loop-hop
invariant-loop-hop g l = Counts (map (λ row. row.items) l.fn.table.items) (map (λ row. row.items) l.table.items) (hops_before l.part l.hop)
