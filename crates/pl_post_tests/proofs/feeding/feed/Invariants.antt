use Rattle.std.proofs.Common.{◌≡◌, ◌+◌}
use Rattle.pl_post.specs.Posts.{IsSeatOf}
use Rattle.pl_post_tests.specs.Feeding.{IsNext}
use Rattle.pl_post_tests.proofs.feeding.feed.Given as goal

abbrev pub invariant-loop-number : goal.invariant-loop-number
invariant-loop-number g l = record {
  seat : IsSeatOf g.M.Mailbox.ends l.post l.seat;
  next : IsNext l.lane l.number (g.M.Mailbox.ends.sends_of l.seat.sender);
  kept : l.seat.seat.kept ≡ l.fn.seat.seat.kept + l.number;
}
