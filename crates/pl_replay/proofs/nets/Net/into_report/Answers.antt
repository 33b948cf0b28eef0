use Rattle.std.proofs.Common.{sym, subst}
use Rattle.std.specs.Prelude.{All}
use Rattle.pl_replay.specs.NetStand.{NetStands}
use Rattle.pl_replay.specs.Reported.{HasEnds, HaveEnds}
use Rattle.pl_replay.specs.declared.channels.Channels.{Channels}
use Rattle.pl_replay.proofs.NetEnds.{all-have-ends, have-ends}
use Rattle.pl_replay.proofs.ReportLists.{all_keep}
use Rattle.pl_replay.proofs.nets.Net.into_report.Goals as goal

pub into_reports-requires : goal.into_reports-requires
into_reports-requires g c =
    let w = c.self.invariant in
    record {
      ends = subst (λ (n : Channels g.row.S.Denot g.row.T.Denot). All HasEnds n.parts.items) (sym c.into_nodes-parts.ensures)
          (all-have-ends g.S.Stage.meaning g.S.Stage.stands_after g.T.Transport.state w.0 w.1 c.self.inside.stations w.2);
    }

pub returns-clause-planned : goal.returns-clause-planned
returns-clause-planned g c = λ plan backlogs n.
    let stands = subst (NetStands g.S.Stage.meaning g.S.Stage.stands_after g.T.Transport.state plan backlogs) (sym c.self.view_is) n in
    c.in_ok-channels.ensures.planned plan (subst (λ (k : Channels g.row.S.Denot g.row.T.Denot). HaveEnds g.T.Transport.state plan k.parts.items) (sym c.into_nodes-parts.ensures)
    (have-ends g.S.Stage.meaning g.S.Stage.stands_after g.T.Transport.state plan backlogs c.self.inside.stations stands))

pub returns-clause-kept : goal.returns-clause-kept
returns-clause-kept g c = λ plan backlogs n. all_keep plan.channels _ (returns-clause-planned g c plan backlogs n)
