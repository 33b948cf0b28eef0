use Rattle.std.proofs.Common.{List, map, Option, sym, ap, subst, ◌∙◌}
use Rattle.std.specs.List.{AllZip}
use Rattle.pl_net.specs.declared.stations.Stations.{Stations}
use Rattle.pl_part.specs.declared.kept.KeptStage.{KeptStage}
use Rattle.pl_part.specs.Keeping.{part_stages}
use Rattle.pl_part.specs.Parts.{ChannelPartView}
use Rattle.pl_replay.specs.NetStand.{NetStands}
use Rattle.pl_replay.specs.LaneStages.{HasLaneStages}
use Rattle.pl_replay.specs.declared.channels.Channels.{Channels}
use Rattle.pl_replay.proofs.LaneStages.{net-stages}
use Rattle.pl_replay.proofs.nets.Net.into_stages.Goals as goal

pub returns-clause-stages : goal.returns-clause-stages
returns-clause-stages g c =
    let given = ap (λ (k : Channels g.row.S.Denot g.row.T.Denot). map (λ (part : ChannelPartView g.row.S.Denot g.row.T.Denot). part_stages part) k.parts.items) c.into_nodes-parts.ensures in
    let own = ap (λ (n : Stations (Channels g.row.S.Denot g.row.T.Denot)). map (λ (part : ChannelPartView g.row.S.Denot g.row.T.Denot). part_stages part) n.nodes.parts.items) c.self.view_is in
    c.in_ok-stages_of.ensures ∙ given ∙ own

pub returns-clause-lanes : goal.returns-clause-lanes
returns-clause-lanes g c = λ plan backlogs n.
    let stands = subst (NetStands g.S.Stage.meaning g.S.Stage.stands_after g.T.Transport.state plan backlogs) (sym c.self.view_is) n in
    let given = ap (λ (k : Channels g.row.S.Denot g.row.T.Denot). map (λ (part : ChannelPartView g.row.S.Denot g.row.T.Denot). part_stages part) k.parts.items) c.into_nodes-parts.ensures in
    subst (λ (l : List (List (Option (KeptStage g.row.S.Denot)))). AllZip (HasLaneStages g.S.Stage.stands_after) plan.channels l) (sym (c.in_ok-stages_of.ensures ∙ given))
    (net-stages g.S.Stage.meaning g.S.Stage.stands_after g.T.Transport.state plan backlogs c.self.inside.stations stands)
