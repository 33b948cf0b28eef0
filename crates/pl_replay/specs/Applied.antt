-- What a net answers to a move.
use Rattle.std.specs.Prelude.{◌≡◌, ℕ, List, Bool, true, false, Result, Ok, Err, IfOk}
use Rattle.pl_event.specs.declared.events.Event.{Event}
use Rattle.pl_event.specs.Meaning.{Meaning}
use Rattle.pl_context.specs.WaitingViews.{Entry}
use Rattle.pl_head.specs.Transports.{TransportState}
use Rattle.pl_net.specs.Stations.{stations_view, IsUnmoved, IsUnmovedButRoom}
use Rattle.pl_net.specs.Nets.{LacksMemory}
use Rattle.pl_net.specs.declared.stations.Stations.{Stations}
use Rattle.pl_world.specs.declared.faults.ReplayFault.{ReplayFault}
use Rattle.pl_world.specs.declared.faults.ReplayFault.TheVariants.{NoSuch, Memory}
use Rattle.pl_world.specs.declared.moves.Move.{Move}
use Rattle.pl_world.specs.declared.moves.Move.TheVariants.{Hand}
use Rattle.pl_world.specs.Plans.{Plan}
use Rattle.pl_replay.specs.MoveModel.{is_there, is_hand}
use Rattle.pl_replay.specs.Moves.{IsEnabled, LeadsTo}
use Rattle.pl_replay.specs.NetStand.{NetStands}
use Rattle.pl_replay.specs.declared.channels.Channels.{Channels}

module _ {S T : Type 0} (meaning : S → Meaning) (stands_after : S → List Event → Type 0) (is_spent : S → Bool) (state : T → TransportState) (may_refuse : T → ℕ → Type 0) where
  -- What a net has answered to a move (EventLoop), and how it stands then.
  pub record IsApplied (step : Move) (net : Stations (Channels S T)) (answer : Result Bool ReplayFault) (net' : Stations (Channels S T)) : Type 0 where
    -- whether the move is enabled, by each plan by which the net stood; it stands by that, and the move has led there
    pub made : IfOk answer (λ made. (plan : Plan) (backlogs : ℕ → List (Entry Unit)) → NetStands meaning stands_after state plan backlogs net
        → (after : ℕ → List (Entry Unit)) × NetStands meaning stands_after state plan after net'
        × LeadsTo meaning stands_after is_spent state may_refuse plan.capacity step (stations_view net backlogs) made (stations_view net' after))
    -- one that is not changes nothing
    pub unmoved : answer ≡ Ok false → IsUnmoved net net'
    -- `NoSuch` where the move names a channel or an executor that is not there
    pub there : (plan : Plan) (backlogs : ℕ → List (Entry Unit)) → NetStands meaning stands_after state plan backlogs net → is_there plan step ≡ false → answer ≡ Err NoSuch
    -- and only there
    pub no_such : answer ≡ Err NoSuch → (plan : Plan) (backlogs : ℕ → List (Entry Unit)) → NetStands meaning stands_after state plan backlogs net → is_there plan step ≡ false
    -- which changes nothing
    pub same : answer ≡ Err NoSuch → net' ≡ net
    -- `Memory` only of a hand-over
    pub hand_alone : answer ≡ Err Memory → is_hand step ≡ true
    -- that is enabled
    pub wanted : answer ≡ Err Memory → (plan : Plan) (backlogs : ℕ → List (Entry Unit)) → NetStands meaning stands_after state plan backlogs net
        → IsEnabled meaning stands_after is_spent state may_refuse plan.capacity step (stations_view net backlogs) true
    -- only where the queue of the item that would go has no memory for one more
    pub refused : answer ≡ Err Memory → (plan : Plan) (backlogs : ℕ → List (Entry Unit)) → NetStands meaning stands_after state plan backlogs net
        → (x : ℕ) × (step ≡ Hand x) × LacksMemory plan.capacity x (stations_view net backlogs)
    -- nothing has moved then but how much memory queues have
    pub memory : answer ≡ Err Memory → IsUnmovedButRoom net net'
    -- and the net goes on by the same plan: its capacity is as it was
    pub goes_on : answer ≡ Err Memory → (plan : Plan) (backlogs : ℕ → List (Entry Unit)) → NetStands meaning stands_after state plan backlogs net → NetStands meaning stands_after state plan backlogs net'
