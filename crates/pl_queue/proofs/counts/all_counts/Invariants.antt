use Rattle.std.proofs.Common.{◌≡◌, map, take}
use Rattle.pl_queue.specs.Views.{fresh_take_counts}
use Rattle.pl_queue.specs.Left.{lanes_of_senders}
use Rattle.pl_queue.proofs.counts.all_counts.Given as goal

abbrev pub invariant-loop-own : goal.invariant-loop-own
invariant-loop-own l = l.counts.items ≡ fresh_take_counts (lanes_of_senders (map (λ v. v.items) (take l.own-index l.lanes)))
