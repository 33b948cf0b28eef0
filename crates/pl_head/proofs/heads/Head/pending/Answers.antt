use Rattle.std.proofs.Common.{ℕ, ◌+◌, ap, ◌∙◌}
use Rattle.pl_head.specs.Marks.{removed_by}
use Rattle.pl_context.specs.Standings.{is_over}
use Rattle.pl_head.specs.OutboundStand.{buffer_view}
use Rattle.pl_head.proofs.HeadAfter.{marks_after, waiting_after}
use Rattle.pl_head.proofs.heads.Head.pending.Goals as goal

pub returns-clause-exact : goal.returns-clause-exact
returns-clause-exact g c =
    rw (← c.self.view_is)
    (λ ys zs sizes s. ap (λ (n : ℕ). n + removed_by sizes) c.pending.ensures.view ∙ (marks_after c.self.inside.failure (g.T.Transport.state c.self.inside.transport).accepted (buffer_view c.self.inside.buffer) ys zs (is_over c.self.inside.standing) sizes s).exact)

pub returns-clause-sizes : goal.returns-clause-sizes
returns-clause-sizes g c =
    rw (← c.self.view_is)
    (λ ys zs sizes s. c.pending.ensures.view ∙ (marks_after c.self.inside.failure (g.T.Transport.state c.self.inside.transport).accepted (buffer_view c.self.inside.buffer) ys zs (is_over c.self.inside.standing) sizes s).pending_is)

pub returns-clause-waiting : goal.returns-clause-waiting
returns-clause-waiting g c =
    rw (← c.self.view_is)
    (λ ys zs sizes s. waiting_after _ _ _ ys zs _ sizes _ s c.pending.ensures.view (λ t. c.pending.ensures.waiting _ ys _ sizes t))
