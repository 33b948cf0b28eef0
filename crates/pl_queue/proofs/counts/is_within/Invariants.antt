use Rattle.std.proofs.Common.{◌≡◌, ◌≤◌, length, map, take}
use Rattle.pl_queue.specs.Left.{lanes_of_senders}
use Rattle.pl_queue.proofs.counts.is_within.Given as goal

abbrev pub invariant-loop-own : goal.invariant-loop-own
invariant-loop-own l = record {
  counted : l.count ≡ length (lanes_of_senders (map (λ v. v.items) (take l.own-index l.lanes)));
  few : l.count ≤ 8192;
}
