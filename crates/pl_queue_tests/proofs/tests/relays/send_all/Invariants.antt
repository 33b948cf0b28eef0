use Rattle.std.proofs.Common.{◌≡◌, false, Some}
use Rattle.pl_queue.specs.Views.{sent_of}
use Rattle.pl_queue_tests.specs.Relays.{sending_lanes}
use Rattle.pl_queue_tests.proofs.tests.relays.send_all.Given as goal

abbrev pub invariant-loop-number : goal.invariant-loop-number
invariant-loop-number g l = record {
  sender : g.M.Mailbox.ends.is_sender l.mailbox l.sender;
  sent : sent_of l.lane (g.M.Mailbox.ends.sends_of l.sender).send_counts ≡ Some (l.number, false);
  lanes : sending_lanes (g.M.Mailbox.ends.sends_of l.sender) ≡ sending_lanes (g.M.Mailbox.ends.sends_of l.fn.sender);
}
