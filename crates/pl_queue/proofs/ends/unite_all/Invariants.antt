use Rattle.std.proofs.Common.{◌≡◌, ◌++◌, map, take, length}
use Rattle.pl_queue.specs.Left.{send_counts_of}
use Rattle.pl_queue.proofs.ends.unite_all.Given as goal

abbrev pub invariant-loop-sender : goal.invariant-loop-sender
invariant-loop-sender g l = record {
  pass : g.Q.RuledQueue.is_pass l.queue l.pass;
  taker : (g.Q.RuledQueue.view_of l.pass).taker ≡ (g.Q.RuledQueue.view_of l.fn.pass).taker;
  takes : (g.Q.RuledQueue.view_of l.pass).takes ≡ (g.Q.RuledQueue.view_of l.fn.pass).takes;
  send_counts : (g.Q.RuledQueue.view_of l.pass).sends.send_counts ≡ (g.Q.RuledQueue.view_of l.fn.pass).sends.send_counts ++ send_counts_of (map (λ s. (g.Q.RuledQueue.view_of s.pass).sends) (take (length l.yielded) l.fn.senders.items));
}
