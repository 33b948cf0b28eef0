use Rattle.std.proofs.Common.{refl, append-nil}
use Rattle.pl_head.proofs.heads.Head.take_late.Goals as goal

pub returns-in-End-item-clause-stands : goal.returns-in-End-item-clause-stands
returns-in-End-item-clause-stands g c = rw (← c.self.view_is) (λ ys zs sizes s. rw (c.in-End-item.is, append-nil zs) s)

pub returns-in-End-item-clause-same : goal.returns-in-End-item-clause-same
returns-in-End-item-clause-same g c = rw (← c.self.view_is) refl
