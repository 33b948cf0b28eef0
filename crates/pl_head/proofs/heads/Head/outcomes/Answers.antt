use Rattle.pl_context.specs.Standings.{is_over}
use Rattle.pl_head.specs.OutboundStand.{buffer_view}
use Rattle.pl_head.proofs.HeadAfter.{outcomes_after}
use Rattle.pl_head.proofs.heads.Head.outcomes.Goals as goal

pub returns-clause-stands : goal.returns-clause-stands
returns-clause-stands g c =
    rw (← c.self.view_is)
    (λ ys zs sizes s.
    let accepted = (g.T.Transport.state c.self.inside.transport).accepted in
    outcomes_after c.self.inside.failure accepted (buffer_view c.self.inside.buffer) ys zs (is_over c.self.inside.standing) sizes c.outcomes.result.now s c.outcomes.ensures.view (λ t. c.outcomes.ensures.stands accepted ys (is_over c.self.inside.standing) sizes t))

pub returns-clause-view : goal.returns-clause-view
returns-clause-view g c = rw (← c.self.view_is) c.outcomes.ensures.view
