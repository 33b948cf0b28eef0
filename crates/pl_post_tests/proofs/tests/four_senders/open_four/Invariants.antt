use Rattle.std.proofs.Common.{◌≡◌, ◌≤◌, ◌*◌, length}
use Rattle.std.specs.Vec.{vec_capacity}
use Rattle.pl_queue.specs.Rule.{Each}
use Rattle.pl_post.specs.Posts.{IsSeatOf}
use Rattle.pl_post_tests.specs.Turns.{IsInTurn}
use Rattle.pl_post_tests.proofs.TurnLemmas.{AreLeft}
use Rattle.pl_post_tests.proofs.tests.four_senders.open_four.Given as goal

abbrev pub invariant-loop-seat : goal.invariant-loop-seat
invariant-loop-seat g l = record {
  first : l.first ≡ 64 * length l.feeders.items;
  room : 4 ≤ vec_capacity l.feeders;
  left : AreLeft (λ s. g.M.Mailbox.ends.sends_of s.sender) l.first l.seat-iterator.rest.items;
  made : Each (λ s. IsSeatOf g.M.Mailbox.ends l.post s) l.seat-iterator.rest.items;
  opened : Each (λ f. IsInTurn g.M.Mailbox.ends l.post f.seat f.first f.sent) l.feeders.items;
}
