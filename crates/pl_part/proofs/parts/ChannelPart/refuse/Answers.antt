use Rattle.std.proofs.Common.{subst}
use Rattle.pl_part.specs.Paths.{PathRefuses, writer_hop}
use Rattle.pl_part.specs.Parts.{ChannelPartView}
use Rattle.pl_part.proofs.PartSteps.{path-refused, refusing-of, refused-of}
use Rattle.pl_part.proofs.parts.ChannelPart.refuse.Goals as goal

pub returns-clause-refuses : goal.returns-clause-refuses
returns-clause-refuses g c =
    subst (λ (y : ChannelPartView _ _). PathRefuses y.path c.args.lane c.args.work.now c.refuse.new.self c.refuse.new.work) c.self.view_is c.refuse.ensures.refuses

pub returns-clause-refused : goal.returns-clause-refused
returns-clause-refused g c =
    let some = refusing-of g.S.Stage.meaning g.S.Stage.stands_after g.T.Transport.state _ _ c.self.view_is c.args.work.now c.requires.holds in
    let t = c.refuse.ensures in
    refused-of g.S.Stage.meaning g.S.Stage.stands_after g.T.Transport.state _ _ c.self.view_is _ _ _ c.args.lane.hop
    (path-refused g.S.Stage.meaning g.S.Stage.stands_after g.T.Transport.state _ c.refuse.new.self t.same (writer_hop c.self.inside.path c.args.lane.hop) t.writes t.others some
    c.args.work.now c.refuse.new.work t.taken t.placed t.holds t.node t.more)
