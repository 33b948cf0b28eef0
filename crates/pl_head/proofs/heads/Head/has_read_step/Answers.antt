use Rattle.pl_head.proofs.heads.Head.has_read_step.Goals as goal

pub returns-clause-open : goal.returns-clause-open
returns-clause-open g c = rw (← c.self.view_is) c.has_step.ensures.port

pub returns-clause-reads : goal.returns-clause-reads
returns-clause-reads g c = rw (← c.self.view_is) (λ p reads failed s. c.has_step.ensures.steps p reads failed s)
