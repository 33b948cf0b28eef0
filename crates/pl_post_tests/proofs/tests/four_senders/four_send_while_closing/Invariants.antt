use Rattle.pl_queue.specs.Rule.{Each}
use Rattle.pl_post_tests.specs.Turns.{IsInTurn}
use Rattle.pl_post_tests.proofs.tests.four_senders.four_send_while_closing.Given as goal

abbrev pub invariant-loop-feeder : goal.invariant-loop-feeder
invariant-loop-feeder g l = Each (λ f. IsInTurn g.M.Mailbox.ends l.post f.seat f.first f.sent) l.feeder-iterator.rest.items
