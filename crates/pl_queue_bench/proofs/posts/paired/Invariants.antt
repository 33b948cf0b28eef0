use Rattle.std.proofs.Common.{◌≡◌, ◌++◌, length, map}
use Rattle.pl_queue_bench.proofs.posts.paired.Given as goal

abbrev pub invariant-loop-sender : goal.invariant-loop-sender
invariant-loop-sender g l = record {
  senders : map (λ s. s.sender) l.paired.items ++ l.sender-iterator.a.rest.items ≡ l.fn.senders.items;
  seats : map (λ s. s.seat) l.paired.items ++ l.sender-iterator.b.rest.items ≡ l.fn.seats.items;
  left : length l.sender-iterator.b.rest.items ≡ length l.sender-iterator.a.rest.items;
}
