use Rattle.std.proofs.Common.{◌≡◌, ◌++◌, length, map}
use Rattle.pl_queue.specs.Rule.{Each}
use Rattle.pl_post.proofs.SeatLemmas.{IsFresh}
use Rattle.pl_post.proofs.opening.paired.Given as goal

abbrev pub invariant-loop-sender : goal.invariant-loop-sender
invariant-loop-sender g l = record {
  senders : map (λ s. s.sender) l.paired.items ++ l.sender-iterator.a.rest.items ≡ l.fn.senders.items;
  seats : map (λ s. s.seat) l.paired.items ++ l.sender-iterator.b.rest.items ≡ l.fn.seats.items;
  left : length l.sender-iterator.b.rest.items ≡ length l.sender-iterator.a.rest.items;
  fresh : Each (λ s. IsFresh (g.M.Mailbox.ends.sends_of s)) l.sender-iterator.a.rest.items;
  unused : Each (λ s. s.kept ≡ 0) l.sender-iterator.b.rest.items;
}
