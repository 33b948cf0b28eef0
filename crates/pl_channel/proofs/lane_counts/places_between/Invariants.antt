use Rattle.std.proofs.Common.{map}
use Rattle.pl_channel.specs.Ways.{Counts}
use Rattle.pl_channel.proofs.PlaceTables.{zeros}
use Rattle.pl_channel.proofs.CountedParts.{lanes_before}
use Rattle.pl_channel.proofs.lane_counts.places_between.Given as goal

abbrev pub invariant-loop-part : goal.invariant-loop-part
invariant-loop-part g l = Counts (zeros l.count) (map (λ row. row.items) l.table.items) (lanes_before l.parts l.count l.part-index)
