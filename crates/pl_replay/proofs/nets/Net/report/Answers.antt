use Rattle.std.proofs.Common.{List, sym, subst}
use Rattle.pl_part.specs.Parts.{ChannelPartView}
use Rattle.pl_replay.specs.Reported.{HaveEnds}
use Rattle.pl_replay.proofs.NetEnds.{have-ends}
use Rattle.pl_replay.proofs.ReportLists.{all_keep}
use Rattle.pl_replay.proofs.nets.Net.report.Goals as goal

pub returns-clause-planned : goal.returns-clause-planned
returns-clause-planned g c = λ plan backlogs n.
    c.in_ok-channels.ensures.planned plan (subst (λ (l : List (ChannelPartView g.row.S.Denot g.row.T.Denot)). HaveEnds g.T.Transport.state plan l) (sym c.parts.ensures.items)
    (have-ends g.S.Stage.meaning g.S.Stage.stands_after g.T.Transport.state plan backlogs c.args.self.now n))

pub returns-clause-kept : goal.returns-clause-kept
returns-clause-kept g c = λ plan backlogs n. all_keep plan.channels _ (returns-clause-planned g c plan backlogs n)
