-- How a net stands between two moves, and before any.
use Rattle.std.specs.Prelude.{◌≡◌, ℕ, List, [], length, false}
use Rattle.pl_event.specs.declared.events.Event.{Event}
use Rattle.pl_event.specs.Meaning.{Meaning}
use Rattle.pl_head.specs.Transports.{TransportState}
use Rattle.pl_context.specs.WaitingViews.{Entry}
use Rattle.pl_net.specs.Stations.{stations_view}
use Rattle.pl_net.specs.Nets.{StationsStand}
use Rattle.pl_net.specs.declared.stations.Stations.{Stations}
use Rattle.pl_channel.specs.Lanes.{world_of}
use Rattle.pl_replay.specs.Moves.{nodes_view, nodes_stand}
use Rattle.pl_channel.specs.PlanStand.{PartsKeepPlan}
use Rattle.pl_replay.specs.declared.channels.Channels.{Channels}
use Rattle.pl_world.specs.Plans.{Plan}
use Rattle.pl_world.specs.PlanRules.{IsPlan, IsSmallPlan}

module _ {S T : Type 0} (meaning : S → Meaning) (stands_after : S → List Event → Type 0) (state : T → TransportState) where
  -- A net stands at a plan (EventLoop): of each lane, what is queued and waits follows what was taken. It goes up to
  -- what was made, unless a refused growth has cut it off. No move changes the plan, the net has these backlogs, and
  -- nothing is on its work list.
  pub record NetStands (plan : Plan) (backlogs : ℕ → List (Entry Unit)) (stations : Stations (Channels S T)) : Type 0 where
    pub ruled : IsPlan plan
    pub small : IsSmallPlan plan
    pub stands : StationsStand (nodes_view meaning) (nodes_stand meaning stands_after state) (world_of false plan) 0 (stations_view stations backlogs)
    pub rests : stations.work.items ≡ []
    pub capacity : stations.capacity ≡ plan.capacity
    pub executors : length stations.stations.items ≡ plan.executors
    pub keeps : PartsKeepPlan state plan stations.nodes.parts.items
