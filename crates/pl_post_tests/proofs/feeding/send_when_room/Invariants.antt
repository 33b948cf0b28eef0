use Rattle.std.proofs.Common.{◌≡◌}
use Rattle.pl_post.specs.Posts.{IsSeatOf}
use Rattle.pl_post_tests.proofs.feeding.send_when_room.Given as goal

abbrev pub invariant-loop : goal.invariant-loop
invariant-loop g l = record {
  seat : IsSeatOf g.M.Mailbox.ends l.post l.seat;
  same : g.M.Mailbox.ends.sends_of l.seat.sender ≡ g.M.Mailbox.ends.sends_of l.fn.seat.sender;
  kept : l.seat.seat.kept ≡ l.fn.seat.seat.kept;
  envelope_is : l.envelope ≡ l.fn.envelope;
}
