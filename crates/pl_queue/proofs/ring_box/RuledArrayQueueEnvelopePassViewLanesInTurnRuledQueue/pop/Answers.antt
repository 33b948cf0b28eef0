use Rattle.pl_queue.proofs.Steps.{pops, both_learn}
use Rattle.pl_queue.proofs.ring_box.RuledArrayQueueEnvelopePassViewLanesInTurnRuledQueue.pop.Goals as goal

pub pop_as-requires-clause-rule : goal.pop_as-requires-clause-rule
pop_as-requires-clause-rule g c = (pops g.W.Named.world _ _ c.requires.pass.1, both_learn g.W.Named.world _ _ c.requires.pass.1)
