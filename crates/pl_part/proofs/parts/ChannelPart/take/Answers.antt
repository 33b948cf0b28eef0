use Rattle.std.proofs.Common.{◌∙◌, sym}
use Rattle.std.proofs.lemmas.Bool.{ne_eqb}
use Rattle.pl_part.proofs.PartSteps.{next-of, next-on-path, path-taken, taken-of}
use Rattle.pl_part.proofs.parts.ChannelPart.take.Goals as goal

pub take-requires : goal.take-requires
take-requires g c =
    let off = ne_eqb c.args.envelope.lane.hop _ (λ e. c.if-envelope-head_hop.false (e ∙ sym c.head_hop.ensures)) in
    let next = next-of g.S.Stage.meaning g.S.Stage.stands_after g.T.Transport.state _ _ c.self.view_is c.args.work.now c.args.envelope c.requires.next in
    record { next = (next.0, next-on-path g.S.Stage.meaning g.S.Stage.stands_after g.T.Transport.state _ c.args.envelope off next.0 c.args.work.now next.1) }

pub returns-else-envelope-head_hop : goal.returns-else-envelope-head_hop
returns-else-envelope-head_hop g c =
    let off = ne_eqb c.args.envelope.lane.hop _ (λ e. c.if-envelope-head_hop.false (e ∙ sym c.head_hop.ensures)) in
    let next = next-of g.S.Stage.meaning g.S.Stage.stands_after g.T.Transport.state _ _ c.self.view_is c.args.work.now c.args.envelope c.requires.next in
    let t = c.take.ensures in
    taken-of g.S.Stage.meaning g.S.Stage.stands_after g.T.Transport.state _ _ c.self.view_is _ _ _ g.S.Stage.is_spent c.args.envelope c.take.result
    (path-taken g.S.Stage.meaning g.S.Stage.stands_after g.T.Transport.state _ c.args.envelope off c.take.new.self t.same (next.0, next.1.holds) next.1.good g.S.Stage.is_spent
    c.args.work.now c.take.new.work c.take.result t.takes t.taken t.writes t.others t.placed t.holds t.node t.more)
