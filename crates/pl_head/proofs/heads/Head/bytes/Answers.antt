use Rattle.pl_head.proofs.heads.Head.bytes.Goals as goal

pub returns-clause-accepted : goal.returns-clause-accepted
returns-clause-accepted g c = rw (← c.self.view_is) c.bytes.ensures
