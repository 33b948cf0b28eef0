use Rattle.std.proofs.Common.{take}
use Rattle.pl_queue.specs.Positions.{ArePositions}
use Rattle.pl_queue.specs.Views.{lanes_of_counts}
use Rattle.pl_queue.proofs.positions.Positions.new.Given as goal

abbrev pub invariant-loop-i : goal.invariant-loop-i
invariant-loop-i l = ArePositions l.positions.rows.items 0 (lanes_of_counts (take l.i l.counts))
