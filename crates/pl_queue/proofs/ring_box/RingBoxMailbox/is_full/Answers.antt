use Rattle.pl_queue.proofs.Steps.{sender_learns}
use Rattle.pl_queue.proofs.ring_box.RingBoxMailbox.is_full.Goals as goal

pub is_full_as-requires-clause-rule : goal.is_full_as-requires-clause-rule
is_full_as-requires-clause-rule g c = sender_learns g.W.Named.world _ _
