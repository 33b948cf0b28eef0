use Rattle.std.proofs.Common.{ap, sym, subst, ◌∙◌}
use Rattle.pl_part.specs.Forgetting.{part_handed, path_record}
use Rattle.pl_part.specs.Parts.{ChannelPartView, PartHolds}
use Rattle.pl_part.specs.Paths.{PathPartView}
use Rattle.pl_part.proofs.Forgotten.{part-hands}
use Rattle.pl_part.proofs.parts.ChannelPart.take_record.Goals as goal

pub returns-clause-record : goal.returns-clause-record
returns-clause-record g c = c.take_record.ensures.record ∙ ap (λ (p : ChannelPartView _ _). path_record p.path) c.self.view_is

pub returns-clause-goes_on : goal.returns-clause-goes_on
returns-clause-goes_on g c = ap (λ (path : PathPartView _). record { path = path; head = c.self.inside.head }) c.take_record.ensures.goes_on ∙ ap (λ (p : ChannelPartView _ _). part_handed p) c.self.view_is

pub returns-clause-holds : goal.returns-clause-holds
returns-clause-holds g c = λ world holds.
    subst (λ (p : ChannelPartView _ _). PartHolds world g.S.Stage.meaning g.S.Stage.stands_after g.T.Transport.state p) (sym (returns-clause-goes_on g c))
    (part-hands world g.S.Stage.meaning g.S.Stage.stands_after g.T.Transport.state c.args.self.now holds)
