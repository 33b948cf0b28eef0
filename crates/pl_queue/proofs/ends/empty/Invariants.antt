use Rattle.std.proofs.Common.{map}
use Rattle.pl_queue.specs.Left.{held_of, IsEmptying}
use Rattle.pl_queue.proofs.ends.empty.Given as goal

abbrev pub invariant-loop : goal.invariant-loop
invariant-loop g l = record {
  pass : g.Q.RuledQueue.is_pass l.queue l.pass;
  emptying : IsEmptying g.W.Named.world (g.Q.RuledQueue.view_of l.fn.pass).sends.send_counts (g.Q.RuledQueue.view_of l.fn.pass).takes.counts (g.Q.RuledQueue.view_of l.pass) (map held_of l.all.items);
}
