use Rattle.std.proofs.Common.{List, sym, subst}
use Rattle.std.specs.Prelude.{All}
use Rattle.pl_part.specs.Parts.{ChannelPartView}
use Rattle.pl_replay.specs.Reported.{HasEnds}
use Rattle.pl_replay.proofs.NetEnds.{all-have-ends}
use Rattle.pl_replay.proofs.nets.Net.parts.Goals as goal

pub returns-clause-ends : goal.returns-clause-ends
returns-clause-ends g c =
    let w = c.self.invariant in
    subst (λ (l : List (ChannelPartView g.row.S.Denot g.row.T.Denot)). All HasEnds l) (sym c.as_slice.ensures.value) (all-have-ends g.S.Stage.meaning g.S.Stage.stands_after g.T.Transport.state w.0 w.1 c.self.inside.stations w.2)
