use Rattle.std.proofs.Common.{◌<◌}
use Rattle.pl_post_tests.specs.Turns.{IsInTurn}
use Rattle.pl_post_tests.proofs.tests.four_senders.feed_in_turn.Given as goal

abbrev pub invariant-loop : goal.invariant-loop
invariant-loop g l = record {
  turn : l.turn < 64;
  in_turn : IsInTurn g.M.Mailbox.ends l.post l.feeder.seat l.feeder.first l.feeder.sent;
}
