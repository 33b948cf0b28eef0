use Rattle.std.proofs.Common.{◌≡◌}
use Rattle.pl_queue_tests.proofs.tests.relays.offer_one.Given as goal

abbrev pub invariant-loop : goal.invariant-loop
invariant-loop g l = record {
  sender : g.M.Mailbox.ends.is_sender l.mailbox l.sender;
  same : g.M.Mailbox.ends.sends_of l.sender ≡ g.M.Mailbox.ends.sends_of l.fn.sender;
  envelope_is : l.envelope ≡ l.fn.envelope;
}
