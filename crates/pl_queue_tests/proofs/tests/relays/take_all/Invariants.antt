use Rattle.std.proofs.Common.{◌≡◌}
use Rattle.pl_queue_tests.specs.Relays.{taking_lanes}
use Rattle.pl_queue_tests.proofs.tests.relays.take_all.Given as goal

abbrev pub invariant-loop : goal.invariant-loop
invariant-loop g l = record {
  taker : g.M.Mailbox.ends.is_taker l.mailbox l.taker;
  lanes : taking_lanes (g.M.Mailbox.ends.takes_of l.taker) ≡ taking_lanes (g.M.Mailbox.ends.takes_of l.fn.taker);
}
