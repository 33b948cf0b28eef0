use Rattle.std.proofs.Common.{◌≡◌, ◌++◌, take}
use Rattle.pl_queue.specs.Views.{fresh_take_counts}
use Rattle.pl_queue.proofs.counts.add_counts.Given as goal

abbrev pub invariant-loop-lane : goal.invariant-loop-lane
invariant-loop-lane l = l.counts.items ≡ l.fn.counts.items ++ fresh_take_counts (take l.lane-index l.lanes)
