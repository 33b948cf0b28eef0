use Rattle.std.proofs.Common.{◌≤◌}
use Rattle.pl_event.specs.Hops.{flags_lane}
use Rattle.pl_post.specs.Posts.{IsSeatOf}
use Rattle.pl_post_tests.specs.Feeding.{IsNext}
use Rattle.pl_post_tests.proofs.tests.answering.ask.Given as goal

abbrev pub invariant-loop-turn : goal.invariant-loop-turn
invariant-loop-turn g l = record {
  seat : IsSeatOf g.M.Mailbox.ends l.post l.seat;
  next : IsNext (flags_lane 0 0) l.next (g.M.Mailbox.ends.sends_of l.seat.sender);
  small : l.next ≤ l.turn;
}
