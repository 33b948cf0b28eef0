use Rattle.std.proofs.Common.{◌≡◌, ◌≤◌, false, Some}
use Rattle.pl_event.specs.Hops.{flags_lane}
use Rattle.pl_queue.specs.Views.{sent_of}
use Rattle.pl_queue_tests.proofs.tests.answering.answers.Given as goal

abbrev pub invariant-offers : goal.invariant-offers
invariant-offers g l = record {
  sender : g.M.Mailbox.ends.is_sender l.mailbox l.sender;
  taker : g.M.Mailbox.ends.is_taker l.mailbox l.taker;
  next : sent_of (flags_lane 0 0) (g.M.Mailbox.ends.sends_of l.sender).send_counts ≡ Some (l.next, false);
  small : l.next ≤ l.count;
}

abbrev pub invariant-takes : goal.invariant-takes
invariant-takes g l = g.M.Mailbox.ends.is_taker l.mailbox l.taker
