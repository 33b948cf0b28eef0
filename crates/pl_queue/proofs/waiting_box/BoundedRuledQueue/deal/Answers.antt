use Rattle.pl_queue.proofs.Steps.{forks}
use Rattle.pl_queue.proofs.waiting_box.BoundedRuledQueue.deal.Goals as goal

pub another-requires-clause-rule : goal.another-requires-clause-rule
another-requires-clause-rule g c = forks g.W.Named.world _ _ g.L.Dealt.lanes c.requires.pass.1 c.requires.fresh
