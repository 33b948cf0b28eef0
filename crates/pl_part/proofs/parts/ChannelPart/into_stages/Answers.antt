use Rattle.pl_part.proofs.LaneStages.{given-lanes}
use Rattle.pl_part.proofs.parts.ChannelPart.into_stages.Goals as goal

pub returns-clause-stages : goal.returns-clause-stages
returns-clause-stages g c = c.in_ok-stages.ensures.stages

pub returns-clause-lanes : goal.returns-clause-lanes
returns-clause-lanes g c = λ world holds.
    given-lanes world g.S.Stage.meaning g.S.Stage.stands_after g.T.Transport.state _ holds c.in_ok-stages.stages.items c.in_ok-stages.ensures.stages
