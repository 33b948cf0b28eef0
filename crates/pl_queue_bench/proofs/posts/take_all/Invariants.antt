use Rattle.pl_queue_bench.proofs.posts.take_all.Given as goal

abbrev pub invariant-loop : goal.invariant-loop
invariant-loop g l = g.C.Closable.is_owner l.mailbox l.owner
