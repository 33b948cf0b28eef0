use Rattle.pl_queue.proofs.Steps.{pops, both_learn}
use Rattle.pl_queue.proofs.waiting_box.BoundedRuledQueue.pop.Goals as goal

pub try_recv_as-requires-clause-rule : goal.try_recv_as-requires-clause-rule
try_recv_as-requires-clause-rule g c = (pops g.W.Named.world _ _ c.requires.pass.1, both_learn g.W.Named.world _ _ c.requires.pass.1)
