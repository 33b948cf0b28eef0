use Rattle.std.proofs.Common.{◌≡◌, map, take}
use Rattle.pl_queue.specs.Left.{held_of, unheld}
use Rattle.pl_queue.proofs.left.entries.Given as goal

abbrev pub invariant-loop-count : goal.invariant-loop-count
invariant-loop-count l = map held_of l.all.items ≡ map unheld (take l.count-index l.counts)
