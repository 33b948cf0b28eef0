use Rattle.pl_queue.proofs.Steps.{merges}
use Rattle.pl_queue.proofs.waiting_box.BoundedRuledQueue.unite.Goals as goal

pub absorb-requires-clause-rule : goal.absorb-requires-clause-rule
absorb-requires-clause-rule g c = merges g.W.Named.world _ _ _ _
