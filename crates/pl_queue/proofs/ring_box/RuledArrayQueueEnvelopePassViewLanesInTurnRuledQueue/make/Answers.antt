use Rattle.pl_queue.proofs.Steps.{begins}
use Rattle.pl_queue.proofs.ring_box.RuledArrayQueueEnvelopePassViewLanesInTurnRuledQueue.make.Goals as goal

pub ruled-requires-clause-rule : goal.ruled-requires-clause-rule
ruled-requires-clause-rule g c = begins g.W.Named.world
