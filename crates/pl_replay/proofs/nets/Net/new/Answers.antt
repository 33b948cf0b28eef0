use Rattle.std.proofs.Common.{◌<◌, ◌^◌, ℕ, List, length, refl, ap, sym, ◌∙◌, subst, false}
use Rattle.pl_context.specs.Stops.{HasPlaces, no_stops}
use Rattle.pl_net.specs.Nets.{no_backlogs}
use Rattle.pl_part.specs.Parts.{ChannelPartView}
use Rattle.pl_channel.specs.Lanes.{world_of}
use Rattle.pl_world.specs.declared.session.Recorded.{Recorded}
use Rattle.pl_world.specs.Plans.{planned}
use Rattle.pl_channel.specs.Ways.{ArePlaceable}
use Rattle.pl_replay.specs.Idle.{AreIdle}
use Rattle.pl_channel.specs.Channels.{data_lanes_of}
use Rattle.pl_channel.specs.WholeParts.{AreWholeParts}
use Rattle.pl_replay.specs.Starts.{NetBegins, transports_of}
use Rattle.pl_channel.proofs.LanePlaces.{places-all}
use Rattle.pl_replay.specs.declared.channels.Channels.{Channels}
use Rattle.pl_channel.proofs.WorldChannels.{recorded-small}
use Rattle.pl_channel.proofs.WholeParts.{lanes-few, placeable}
use Rattle.pl_replay.proofs.NetStarts.{starts, world-begins}
use Rattle.pl_replay.proofs.nets.Net.new.Goals as goal

pub whole_parts-requires-clause-small : goal.whole_parts-requires-clause-small
whole_parts-requires-clause-small g c =
    recorded-small g.S.Stage.meaning g.T.Transport.state c.args.world c.into_channels.ensures.is_world c.into_vec.result.items (c.into_vec.ensures ∙ c.into_channels.ensures.channels)

pub idle_stations-requires : goal.idle_stations-requires
idle_stations-requires g c =
    let placed = subst (λ (rs : List (Recorded g.row.S.Denot g.row.T.Denot)). AreWholeParts g.S.Stage.meaning g.S.Stage.stands_after g.T.Transport.state rs c.in_ok-parts.parts.items) (c.into_vec.ensures ∙ c.into_channels.ensures.channels) c.in_ok-parts.ensures in
    subst (λ (l : List (ChannelPartView g.row.S.Denot g.row.T.Denot)). ArePlaceable l) (sym c.as_slice.ensures.value)
    (placeable g.S.Stage.meaning g.S.Stage.stands_after g.T.Transport.state (planned g.S.Stage.meaning g.T.Transport.state c.args.capacity c.args.world.executors c.args.world.channels) c.args.world.channels refl c.in_ok-parts.parts.items placed (c.into_channels.ensures.is_world.small c.args.capacity))

pub lane_count-lanes-requires : goal.lane_count-lanes-requires
lane_count-lanes-requires g c =
    let placed = subst (λ (rs : List (Recorded g.row.S.Denot g.row.T.Denot)). AreWholeParts g.S.Stage.meaning g.S.Stage.stands_after g.T.Transport.state rs c.in_ok-parts.parts.items) (c.into_vec.ensures ∙ c.into_channels.ensures.channels) c.in_ok-parts.ensures in
    subst (λ (l : List (ChannelPartView g.row.S.Denot g.row.T.Denot)). length (data_lanes_of l) < 2 ^ 16) (sym c.as_slice-2.ensures.value)
    (lanes-few g.S.Stage.meaning g.S.Stage.stands_after g.T.Transport.state (planned g.S.Stage.meaning g.T.Transport.state c.args.capacity c.args.world.executors c.args.world.channels) c.args.world.channels refl c.in_ok-parts.parts.items placed (c.into_channels.ensures.is_world.small c.args.capacity))

pub new-requires-clause-start : goal.new-requires-clause-start
new-requires-clause-start g c =
    let placed = subst (λ (rs : List (Recorded g.row.S.Denot g.row.T.Denot)). AreWholeParts g.S.Stage.meaning g.S.Stage.stands_after g.T.Transport.state rs c.in_ok-parts.parts.items) (c.into_vec.ensures ∙ c.into_channels.ensures.channels) c.in_ok-parts.ensures in
    let idle = subst (λ (l : List (ChannelPartView g.row.S.Denot g.row.T.Denot)). AreIdle l c.args.world.executors c.in_ok-idle.idle.items) c.as_slice.ensures.value
    (subst (λ (n : ℕ). AreIdle c.as_slice.result.now n c.in_ok-idle.idle.items) c.executors-count.ensures c.in_ok-idle.ensures) in
    let is = c.into_channels.ensures.is_world in
    starts g.S.Stage.meaning g.S.Stage.stands_after g.T.Transport.state (planned g.S.Stage.meaning g.T.Transport.state c.args.capacity c.args.world.executors c.args.world.channels) c.args.world.channels refl c.in_ok-parts.parts.items placed (is.ruled c.args.capacity c.requires.capacity.0) is.channels c.in_ok-idle.idle.items idle

pub new-requires-clause-places : goal.new-requires-clause-places
new-requires-clause-places g c =
    subst (λ (n : ℕ). HasPlaces (no_stops n) (data_lanes_of c.in_ok-parts.parts.items)) (ap (λ (l : List (ChannelPartView g.row.S.Denot g.row.T.Denot)). length (data_lanes_of l)) (sym c.as_slice-2.ensures.value) ∙ sym c.lane_count-lanes.ensures)
    (places-all c.in_ok-parts.parts.items)

net-begins : (g : _) (c : goal.In_ok-stations g) → NetBegins g.S.Stage.meaning g.S.Stage.stands_after g.T.Transport.state (planned g.S.Stage.meaning g.T.Transport.state c.args.capacity c.args.world.executors c.args.world.channels) (transports_of c.args.world.channels) c.in_ok-stations.stations
net-begins g c =
    let placed = subst (λ (rs : List (Recorded g.row.S.Denot g.row.T.Denot)). AreWholeParts g.S.Stage.meaning g.S.Stage.stands_after g.T.Transport.state rs c.in_ok-parts.parts.items) (c.into_vec.ensures ∙ c.into_channels.ensures.channels) c.in_ok-parts.ensures in
    let idle = subst (λ (l : List (ChannelPartView g.row.S.Denot g.row.T.Denot)). AreIdle l c.args.world.executors c.in_ok-idle.idle.items) c.as_slice.ensures.value
    (subst (λ (n : ℕ). AreIdle c.as_slice.result.now n c.in_ok-idle.idle.items) c.executors-count.ensures c.in_ok-idle.ensures) in
    let made = c.in_ok-stations.ensures in
    world-begins g.S.Stage.meaning g.S.Stage.stands_after g.T.Transport.state c.args.world c.into_channels.ensures.is_world c.args.capacity c.requires.capacity.0 c.in_ok-parts.parts.items placed c.in_ok-idle.idle.items idle
    c.in_ok-stations.stations (ap (λ (n : Channels g.row.S.Denot g.row.T.Denot). n.parts.items) made.nodes) made.stations made.capacity made.rests
    (made.unstopped ∙ ap no_stops (c.lane_count-lanes.ensures ∙ ap (λ (l : List (ChannelPartView g.row.S.Denot g.row.T.Denot)). length (data_lanes_of l)) c.as_slice-2.ensures.value))
    (λ s. made.stands (world_of false (planned g.S.Stage.meaning g.T.Transport.state c.args.capacity c.args.world.executors c.args.world.channels)) 0 s)

pub invariant_of-result : goal.invariant_of-result
invariant_of-result g c = ((planned g.S.Stage.meaning g.T.Transport.state c.args.capacity c.args.world.executors c.args.world.channels), no_backlogs, (net-begins g c).stands)

pub returns-clause-begins : goal.returns-clause-begins
returns-clause-begins g c = net-begins g c

pub returns-clause-whole : goal.returns-clause-whole
returns-clause-whole g c =
    let Wholes = λ (rs : List (Recorded g.row.S.Denot g.row.T.Denot)) (parts : List (ChannelPartView g.row.S.Denot g.row.T.Denot)). AreWholeParts g.S.Stage.meaning g.S.Stage.stands_after g.T.Transport.state rs parts in
    let placed = subst (λ (rs : List (Recorded g.row.S.Denot g.row.T.Denot)). Wholes rs c.in_ok-parts.parts.items) (c.into_vec.ensures ∙ c.into_channels.ensures.channels) c.in_ok-parts.ensures in
    subst (Wholes c.args.world.channels) (sym (ap (λ (n : Channels g.row.S.Denot g.row.T.Denot). n.parts.items) c.in_ok-stations.ensures.nodes)) placed
