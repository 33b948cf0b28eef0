use Rattle.std.proofs.Common.{◌≡◌, ◌||◌, false, is_some, sym, ap, ◌∙◌, rules}
use Rattle.pl_context.specs.Standings.{is_over}
use Rattle.pl_head.specs.HeadStand.{HeadView}
use Rattle.pl_head.specs.OutboundStand.{buffer_view}
use Rattle.pl_head.specs.Transports.{TransportState}
use Rattle.pl_head.proofs.Forgetting.{forgets-after}
use Rattle.pl_head.proofs.heads.Head.forget.Goals as goal

pub returns-clause-forgets : goal.returns-clause-forgets
returns-clause-forgets g c = λ _.
    let inside = c.self.inside in
    let accepted = (g.T.Transport.state inside.transport).accepted in
    let going : (is_over inside.standing || is_some inside.failure) ≡ false = ap (λ (h : HeadView _). is_over h.standing || is_some h.failure) c.self.view_is ∙ sym c.is_ended.ensures ∙ c.if-is_ended.false in
    rw (← c.self.view_is) record {
      stood = λ ys zs sizes s.
          forgets-after inside.failure accepted (g.T.Transport.state c.drain.new.self).accepted (buffer_view inside.buffer) (buffer_view c.forget.new.self) ys zs (is_over inside.standing) sizes going
          (ap (λ (t : TransportState). t.accepted) c.drain.ensures) s (λ t. c.forget.ensures.stands c.if-not-forget.false accepted ys sizes t);
      unfailed = search rules;
      is_open = search rules;
      transport = search rules;
      writes = c.forget.ensures.forgets c.if-not-forget.false;
      gone = search rules;
      same = search rules;
    }
