-- Why a move is not enabled (docs/FORMATS.md, "Moves").
use Rattle.std.specs.Prelude.{◌≡◌, ◌<◌, ℕ, List, [], length, slice_get, Option, Some, None, IfSome, IsSome, is_none, Bool, true, false}
use Rattle.pl_event.specs.declared.events.Event.{Event}
use Rattle.pl_event.specs.Meaning.{Meaning}
use Rattle.pl_context.specs.WaitingViews.{Entry}
use Rattle.pl_head.specs.HeadStand.{HeadView}
use Rattle.pl_head.specs.Transports.{TransportState}
use Rattle.pl_net.specs.Nets.{StationsView, queue_at}
use Rattle.pl_net.specs.Stations.{stations_view}
use Rattle.pl_net.specs.declared.stations.Stations.{Stations}
use Rattle.pl_part.specs.Parts.{ChannelPartView}
use Rattle.pl_world.specs.declared.moves.Move.{Move}
use Rattle.pl_world.specs.Movers.{mover_of}
use Rattle.pl_world.specs.Plans.{Plan}
use Rattle.pl_replay.specs.MoveModel.{is_there}
use Rattle.pl_replay.specs.Moves.{IsEnabled}
use Rattle.pl_replay.specs.NetStand.{NetStands}
use Rattle.pl_replay.specs.declared.channels.Channels.{Channels}
use Rattle.pl_replay.specs.declared.nets.hindrances.Hindrance.{Hindrance}
use Rattle.pl_replay.specs.declared.nets.hindrances.Hindrance.TheVariants.{NoReadStep, BurstHeld, EmptyQueue, EmptyBacklog, FullQueues, NothingFlushed, HeadFailed}

module _ {S T : Type 0} where
  -- the head of a channel is so
  abbrev pub OfHead : (HeadView T → Type 0) → List (ChannelPartView S T) → ℕ → Type 0
  OfHead P ps c = (p : ChannelPartView S T) (h : HeadView T) → slice_get ps c ≡ Some p → p.head ≡ Some h → P h

  -- What is so where a move is not enabled for this reason (FORMATS).
  abbrev pub Hinders : Hindrance → Move → StationsView (Channels S T) → Type 0
  Hinders NoReadStep move c = OfHead (λ h. h.input.port.is_open ≡ false) c.nodes.parts.items (mover_of move)
  Hinders BurstHeld move c = OfHead (λ h. h.input.port.is_open ≡ true) c.nodes.parts.items (mover_of move)
  Hinders EmptyQueue move c = queue_at c.stations (mover_of move) ≡ []
  Hinders EmptyBacklog move c = c.backlogs (mover_of move) ≡ []
  Hinders FullQueues move c = 0 < length (c.backlogs (mover_of move))
  Hinders NothingFlushed move c = OfHead (λ h. h.failure ≡ None) c.nodes.parts.items (mover_of move)
  Hinders HeadFailed move c = OfHead (λ h. IsSome h.failure) c.nodes.parts.items (mover_of move)

module _ {S T : Type 0} (meaning : S → Meaning) (stands_after : S → List Event → Type 0) (is_spent : S → Bool) (state : T → TransportState) (may_refuse : T → ℕ → Type 0) where
  -- What is told of a move (FORMATS): nothing of one that is there exactly where it is enabled, and else a reason that is so.
  pub record TellsHindrance (move : Move) (net : Stations (Channels S T)) (told : Option Hindrance) : Type 0 where
    pub enabled : (plan : Plan) (backlogs : ℕ → List (Entry Unit)) → NetStands meaning stands_after state plan backlogs net → is_there plan move ≡ true
        → IsEnabled meaning stands_after is_spent state may_refuse plan.capacity move (stations_view net backlogs) (is_none told)
    pub reason : IfSome told (λ why. (plan : Plan) (backlogs : ℕ → List (Entry Unit)) → NetStands meaning stands_after state plan backlogs net
        → Hinders why move (stations_view net backlogs))
