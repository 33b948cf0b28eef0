use Rattle.std.proofs.Common.{Bool, ap, ◌∙◌}
use Rattle.std.specs.Prelude.{not}
use Rattle.pl_context.specs.Standings.{is_over}
use Rattle.pl_head.specs.OutboundStand.{buffer_view}
use Rattle.pl_head.proofs.HeadAfter.{marks_after}
use Rattle.pl_head.proofs.heads.Head.is_writable.Goals as goal

pub returns-clause-view : goal.returns-clause-view
returns-clause-view g c = rw (← c.self.view_is) c.is_writable.ensures.view

pub returns-clause-sizes : goal.returns-clause-sizes
returns-clause-sizes g c =
    rw (← c.self.view_is)
    (λ ys zs sizes s.
    c.is_writable.ensures.view
    ∙ ap (λ (b : Bool). not b) (marks_after c.self.inside.failure (g.T.Transport.state c.self.inside.transport).accepted (buffer_view c.self.inside.buffer) ys zs (is_over c.self.inside.standing) sizes s).unwritable_is)
