use Rattle.pl_context.specs.Standings.{is_over}
use Rattle.pl_head.specs.OutboundStand.{buffer_view}
use Rattle.pl_head.proofs.Accepting.{idle_or_failed}
use Rattle.pl_head.proofs.heads.Head.is_written.Goals as goal

pub returns-clause-stands : goal.returns-clause-stands
returns-clause-stands g c =
    rw (← c.self.view_is)
    (λ ys zs sizes s.
    let inside = c.self.inside in
    let accepted = (g.T.Transport.state inside.transport).accepted in
    idle_or_failed inside.failure accepted (buffer_view inside.buffer) ys zs (is_over inside.standing) sizes s
    (λ failed. c.is_written.ensures.none (c.self.invariant.nothing_flushed failed)) (c.is_written.ensures.stands accepted ys (is_over inside.standing) sizes))
