-- The channels of a net before any move.
use Rattle.std.specs.Prelude.{◌≡◌, ℕ, false, List, [], length, map, slice_get, Some}
use Rattle.pl_event.specs.declared.events.Event.{Event}
use Rattle.pl_event.specs.Meaning.{Meaning}
use Rattle.pl_context.specs.Stops.{no_stops}
use Rattle.pl_head.specs.Transports.{TransportState}
use Rattle.pl_part.specs.Parts.{ChannelPartView, PartHolds}
use Rattle.pl_net.specs.Stations.{stations_view}
use Rattle.pl_net.specs.Nets.{StationsView, IsStart, no_backlogs}
use Rattle.pl_net.specs.declared.stations.Stations.{Stations}
use Rattle.pl_replay.specs.NetStand.{NetStands}
use Rattle.pl_replay.specs.Views.{channels_view}
use Rattle.pl_replay.specs.declared.channels.Channels.{Channels}
use Rattle.pl_channel.specs.Channels.{data_lanes_of}
use Rattle.pl_channel.specs.Lanes.{world_of}
use Rattle.pl_channel.specs.WholeParts.{IsWhole, HasNewStages, IsAtStart}
use Rattle.pl_world.specs.declared.session.Recorded.{Recorded}
use Rattle.pl_world.specs.Plans.{ChannelPlan, Plan}

-- the transports of recorded channels, in order
abbrev pub transports_of : {S T : Type 0} → List (Recorded S T) → List T
transports_of channels = map (λ c. c.transport) channels

-- The contexts of a part are those of stages that mean what the plan says, in the order of the two chains, and have had no step.
pub record HasPlannedStages {S T : Type 0} (meaning : S → Meaning) (stands_after : S → List Event → Type 0) (number : ℕ) (p : ChannelPlan) (part : ChannelPartView S T) : Type 0 where
  pub inbound : List S
  pub outbound : List S
  pub inbound_are : map meaning inbound ≡ p.inbound
  pub outbound_are : map meaning outbound ≡ p.outbound
  pub stages : HasNewStages meaning stands_after number inbound outbound part

module _ {S T : Type 0} (meaning : S → Meaning) (stands_after : S → List Event → Type 0) (state : T → TransportState) where
  -- Before any move: each channel of the plan has all its nodes, over one of these transports; nothing was taken, made or handed
  -- over, and no lane has stopped.
  pub record Begins (plan : Plan) (transports : List T) (c : StationsView (Channels S T)) : Type 0 where
    pub channels : length c.nodes.parts.items ≡ length plan.channels
    pub each : (number : ℕ) (p : ChannelPlan) (transport : T) (part : ChannelPartView S T) → slice_get plan.channels number ≡ Some p → slice_get transports number ≡ Some transport → slice_get c.nodes.parts.items number ≡ Some part
        → IsWhole state number p transport part × HasPlannedStages meaning stands_after number p part × IsAtStart meaning part × PartHolds (world_of false plan) meaning stands_after state part
    pub executors : length c.stations ≡ plan.executors
    pub start : IsStart (channels_view meaning c.nodes.parts.items) c.stations
    pub backlogs : c.backlogs ≡ no_backlogs
    -- nothing is on the work list, no lane has stopped there, and it has a place for each data lane
    pub work : c.work.items ≡ []
    pub unstopped : c.work.stopped ≡ no_stops (length (data_lanes_of c.nodes.parts.items))

  -- A net stands, and no move was made.
  pub record NetBegins (plan : Plan) (transports : List T) (stations : Stations (Channels S T)) : Type 0 where
    pub stands : NetStands meaning stands_after state plan no_backlogs stations
    pub begins : Begins plan transports (stations_view stations no_backlogs)
