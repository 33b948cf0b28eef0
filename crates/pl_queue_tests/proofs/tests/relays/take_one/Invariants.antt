use Rattle.std.proofs.Common.{◌≡◌}
use Rattle.pl_queue_tests.proofs.tests.relays.take_one.Given as goal

abbrev pub invariant-loop : goal.invariant-loop
invariant-loop g l = record {
  taker : g.M.Mailbox.ends.is_taker l.mailbox l.taker;
  same : g.M.Mailbox.ends.takes_of l.taker ≡ g.M.Mailbox.ends.takes_of l.fn.taker;
}
