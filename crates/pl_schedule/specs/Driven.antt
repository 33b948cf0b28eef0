-- Moves that are made of a net, and kept.
use Rattle.std.specs.Prelude.{◌≡◌, ℕ, List, true, Bool}
use Rattle.std.specs.List.{list_all}
use Rattle.pl_event.specs.declared.events.Event.{Event}
use Rattle.pl_event.specs.Meaning.{Meaning}
use Rattle.pl_context.specs.WaitingViews.{Entry}
use Rattle.pl_head.specs.Transports.{TransportState}
use Rattle.pl_net.specs.Nets.{StationsView}
use Rattle.pl_net.specs.Stations.{stations_view}
use Rattle.pl_net.specs.declared.stations.Stations.{Stations}
use Rattle.pl_world.specs.declared.moves.Move.{Move}
use Rattle.pl_world.specs.Plans.{Plan}
use Rattle.pl_replay.specs.MoveModel.{is_there}
use Rattle.pl_replay.specs.Moves.{Reaches}
use Rattle.pl_replay.specs.NetStand.{NetStands}
use Rattle.pl_replay.specs.declared.channels.Channels.{Channels}

module _ {S T : Type 0} (meaning : S → Meaning) (stands_after : S → List Event → Type 0) (is_spent : S → Bool) (state : T → TransportState) (may_refuse : T → ℕ → Type 0) where
  -- A net is driven on: from wherever these moves have led to it, those lead to where it stands then (EventLoop).
  pub record IsDriven (net : Stations (Channels S T)) (moves : List Move) (net' : Stations (Channels S T)) (moves' : List Move) : Type 0 where
    pub leads : (plan : Plan) (backlogs : ℕ → List (Entry Unit)) (start : StationsView (Channels S T)) → NetStands meaning stands_after state plan backlogs net
        → list_all (is_there plan) moves ≡ true → Reaches meaning stands_after is_spent state may_refuse plan.capacity moves start (stations_view net backlogs)
        → (list_all (is_there plan) moves' ≡ true)
        × ((after : ℕ → List (Entry Unit)) × NetStands meaning stands_after state plan after net'
        × Reaches meaning stands_after is_spent state may_refuse plan.capacity moves' start (stations_view net' after))
