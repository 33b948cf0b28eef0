use Rattle.pl_queue.proofs.Steps.{pushes_same, sender_learns}
use Rattle.pl_queue.proofs.waiting_box.Bounded.try_push.Goals as goal

pub try_send_as-requires-clause-rule : goal.try_send_as-requires-clause-rule
try_send_as-requires-clause-rule g c = let inv = c.loop.invariant in (
  pushes_same g.W.Named.world _ _ _ _ c.loop.envelope c.args.envelope inv.same inv.view c.requires.next c.requires.small c.requires.fits,
  sender_learns g.W.Named.world _ _,
)
