use Rattle.std.proofs.Common.{false}
use Rattle.pl_channel.specs.Lanes.{world_of}
use Rattle.pl_replay.specs.Views.{channels_view}
use Rattle.pl_replay.proofs.GivenLanes.{has-given}
use Rattle.pl_replay.proofs.account_laws.account_law.Goals as goal

pub returns-clause-order : goal.returns-clause-order
returns-clause-order g c = λ plan backlogs net n l w. c.account_law.ensures.order (world_of false plan) (channels_view g.S.Stage.meaning net.nodes.parts.items) 0 net.stations.items backlogs net.work n.stands.runs l w

pub returns-clause-all : goal.returns-clause-all
returns-clause-all g c = λ plan backlogs net n l w a b. c.account_law.ensures.all (world_of false plan) (channels_view g.S.Stage.meaning net.nodes.parts.items) 0 net.stations.items backlogs net.work n.stands.runs n.rests l w a b

pub returns-clause-elsewhere : goal.returns-clause-elsewhere
returns-clause-elsewhere g c = λ plan backlogs net n y l. c.account_law.ensures.elsewhere (world_of false plan) (channels_view g.S.Stage.meaning net.nodes.parts.items) 0 net.stations.items backlogs net.work n.stands.runs y l

pub returns-clause-numbers : goal.returns-clause-numbers
returns-clause-numbers g c = λ plan backlogs net n l w a b. c.account_law.ensures.numbers (world_of false plan) (channels_view g.S.Stage.meaning net.nodes.parts.items) 0 net.stations.items backlogs net.work n.stands.runs n.rests l w a b

pub returns-clause-direct : goal.returns-clause-direct
returns-clause-direct g c = λ plan backlogs net n l w same. c.account_law.ensures.direct (world_of false plan) (channels_view g.S.Stage.meaning net.nodes.parts.items) 0 net.stations.items backlogs net.work n.stands.runs n.rests l w same

pub returns-clause-given : goal.returns-clause-given
returns-clause-given g c = λ plan backlogs net n l part k at inner writer sound. has-given (world_of false plan) g.S.Stage.meaning g.S.Stage.stands_after g.T.Transport.state net.nodes.parts.items n.stands.hold l part k at inner writer sound
