use Rattle.pl_queue_tests.proofs.lines.take_lanes.Given as goal

abbrev pub invariant-loop : goal.invariant-loop
invariant-loop g l = g.M.Mailbox.ends.is_taker l.mailbox l.taker
