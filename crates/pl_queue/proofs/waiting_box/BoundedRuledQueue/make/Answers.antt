use Rattle.pl_queue.proofs.Steps.{begins}
use Rattle.pl_queue.proofs.waiting_box.BoundedRuledQueue.make.Goals as goal

pub bounded_with-requires-clause-rule : goal.bounded_with-requires-clause-rule
bounded_with-requires-clause-rule g c = begins g.W.Named.world
