use Rattle.std.proofs.Common.{sym, subst}
use Rattle.pl_live.specs.LiveStand.{LiveStands}
use Rattle.pl_live.proofs.Changed.{end-said}
use Rattle.pl_live.proofs.live.Live.end.Goals as goal

pub invariant_of-self : goal.invariant_of-self
invariant_of-self g c = (c.self.invariant.0, end-said g.S.Stage.meaning g.S.Stage.stands_after g.T.Transport.state c.self.invariant.0 (record { stations = c.self.inside.stations; room = c.self.inside.room; ends = c.self.inside.ends; delivered = c.self.inside.delivered; front = c.self.inside.front.items; gone = c.self.inside.gone; consumed = c.self.inside.consumed }) c.self.invariant.1)

pub returns-clause-rests : goal.returns-clause-rests
returns-clause-rests g c = λ p r.
    c.advance.ensures.rests p (end-said g.S.Stage.meaning g.S.Stage.stands_after g.T.Transport.state p (record { stations = c.self.inside.stations; room = c.self.inside.room; ends = c.self.inside.ends; delivered = c.self.inside.delivered; front = c.self.inside.front.items; gone = c.self.inside.gone; consumed = c.self.inside.consumed }) (subst (LiveStands g.S.Stage.meaning g.S.Stage.stands_after g.T.Transport.state p) (sym c.self.view_is) r.stands))
