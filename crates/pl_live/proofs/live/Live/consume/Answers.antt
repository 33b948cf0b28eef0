use Rattle.std.proofs.Common.{◌+◌, ◌≤◌, length, sym, subst}
use Rattle.pl_live.specs.LiveStand.{LiveView, LiveStands, accepted_in, parts_of}
use Rattle.pl_live.proofs.Changed.{handed-out}
use Rattle.pl_live.proofs.live.Live.consume.Goals as goal

pub returns-clause-rests : goal.returns-clause-rests
returns-clause-rests g c = λ p r.
    let stands = subst (LiveStands g.S.Stage.meaning g.S.Stage.stands_after g.T.Transport.state p) (sym c.self.view_is) r.stands in
    let within = subst (λ (l : LiveView _ _). l.consumed + c.args.count ≤ length (accepted_in g.T.Transport.state (parts_of l))) (sym c.self.view_is) c.requires.within in
    let live : LiveView g.row.S.Denot g.row.T.Denot = record { stations = c.self.inside.stations; room = c.self.inside.room; ends = c.self.inside.ends; delivered = c.self.inside.delivered; front = c.self.inside.front.items; gone = c.self.inside.gone; consumed = c.self.inside.consumed } in
    c.advance.ensures.rests p (c.forget.ensures.stands p (handed-out g.S.Stage.meaning g.S.Stage.stands_after g.T.Transport.state p live stands c.self.inside.delivered c.self.inside.front.items (c.self.inside.consumed + c.args.count) stands.handed.events within))
