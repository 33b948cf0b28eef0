use Rattle.pl_queue.proofs.Steps.{both_learn}
use Rattle.pl_queue.proofs.ring_box.RingBoxMailbox.is_empty.Goals as goal

pub is_empty_as-requires-clause-rule : goal.is_empty_as-requires-clause-rule
is_empty_as-requires-clause-rule g c = both_learn g.W.Named.world _ _ c.requires.taker.1.taker
