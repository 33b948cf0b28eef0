use Rattle.pl_queue.proofs.Steps.{pushes, sender_learns}
use Rattle.pl_queue.proofs.ring_box.RingBoxMailbox.offer.Goals as goal

pub push_as-requires-clause-rule : goal.push_as-requires-clause-rule
push_as-requires-clause-rule g c =
    (pushes g.W.Named.world _ _ _ _ c.requires.next c.requires.small c.requires.fits, sender_learns g.W.Named.world _ _)
