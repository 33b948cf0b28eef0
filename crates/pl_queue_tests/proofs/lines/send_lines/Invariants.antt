use Rattle.std.proofs.Common.{◌≡◌, length, false, Some}
use Rattle.pl_queue.specs.Views.{sent_of}
use Rattle.pl_queue_tests.proofs.lines.send_lines.Given as goal

abbrev pub invariant-loop-line : goal.invariant-loop-line
invariant-loop-line g l = record {
  sender : g.M.Mailbox.ends.is_sender l.mailbox l.sender;
  sent : sent_of l.lane (g.M.Mailbox.ends.sends_of l.sender).send_counts ≡ Some (l.number, false);
  number_is : l.number ≡ length l.yielded;
}
