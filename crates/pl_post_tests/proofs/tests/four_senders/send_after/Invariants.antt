use Rattle.std.proofs.Common.{◌≤◌}
use Rattle.pl_post_tests.specs.Turns.{IsInTurn}
use Rattle.pl_post_tests.proofs.tests.four_senders.send_after.Given as goal

abbrev pub invariant-loop-turn : goal.invariant-loop-turn
invariant-loop-turn g l = record {
  in_turn : IsInTurn g.M.Mailbox.ends l.post l.feeder.seat l.feeder.first l.feeder.sent;
  most : l.closed_after ≤ l.turn;
}
