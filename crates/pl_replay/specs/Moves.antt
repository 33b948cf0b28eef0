-- What moves do to a net, and when each is enabled (Netty: EventLoop, whose tasks run one after another).
use Rattle.std.specs.Prelude.{◌≡◌, ℕ, List, [], ◌∷◌, map, nat_lt, length, is_some, position, Bool, true, false, Option, Some}
use Rattle.pl_event.specs.declared.events.Event.{Event}
use Rattle.pl_event.specs.declared.envelopes.Envelope.{Envelope}
use Rattle.pl_event.specs.Meaning.{Meaning}
use Rattle.pl_event.specs.Worlds.{World}
use Rattle.pl_context.specs.OutputsViews.{OutputsView}
use Rattle.pl_flow.specs.declared.head_moves.HeadMove.{HeadMove}
use Rattle.pl_flow.specs.declared.head_moves.HeadMove.TheVariants as head
use Rattle.pl_head.specs.Transports.{TransportState}
use Rattle.pl_net.specs.Stations.{waits_of}
use Rattle.pl_net.specs.NodesViews.{NodesView}
use Rattle.pl_net.specs.Nets.{StationsView, RunsTask, Gives, HandsOver, has_room, queue_at}
use Rattle.pl_replay.specs.Views.{channels_view}
use Rattle.pl_channel.specs.Channels.{ChannelsStand, home_of, IsTakenBy, IsMovedBy, MayMove}
use Rattle.pl_replay.specs.declared.channels.Channels.{Channels}
use Rattle.pl_world.specs.declared.moves.Move.{Move}
use Rattle.pl_world.specs.declared.moves.Move.TheVariants.{Read, Task, Hand, Out}

-- where the oldest item of an executor's backlog stands whose target has room
abbrev pub oldest : {N : Type 0} → ℕ → StationsView N → ℕ → Option ℕ
oldest capacity c x = position (λ entry. has_room c.stations capacity entry.target) (c.backlogs x)

-- Nothing has moved, but for how much memory queues have.
pub record Rests {N : Type 0} (c c' : StationsView N) : Type 0 where
  pub nodes : c'.nodes ≡ c.nodes
  pub stations : map waits_of c'.stations ≡ map waits_of c.stations
  pub backlogs : c'.backlogs ≡ c.backlogs
  pub work : c'.work ≡ c.work

-- The oldest item that can be handed over is.
pub record HandsOldest {N : Type 0} (capacity x : ℕ) (c c' : StationsView N) : Type 0 where
  pub at : ℕ
  pub is : oldest capacity c x ≡ Some at
  pub hands : HandsOver x at c c'

-- ---- the nodes, as executors see them

abbrev pub nodes_view : {S T : Type 0} → (S → Meaning) → Channels S T → NodesView
nodes_view meaning n = channels_view meaning n.parts.items

abbrev pub nodes_stand : {S T : Type 0} → (S → Meaning) → (S → List Event → Type 0) → (T → TransportState) → World → Channels S T → Type 0
nodes_stand meaning stands_after state world n = ChannelsStand world meaning stands_after state n.parts.items

abbrev pub nodes_take : {S T : Type 0} → (S → Meaning) → (S → List Event → Type 0) → (S → Bool) → (T → TransportState) → Channels S T → Envelope → OutputsView → Channels S T → OutputsView → Type 0
nodes_take meaning stands_after is_spent state n e before n' after = IsTakenBy meaning stands_after is_spent state n.parts.items e before n'.parts.items after

abbrev pub nodes_move : {S T : Type 0} → (T → TransportState) → (T → ℕ → Type 0) → Channels S T → HeadMove → ℕ → OutputsView → Channels S T → OutputsView → Type 0
nodes_move state may_refuse n by channel before n' after = IsMovedBy state may_refuse n.parts.items by channel before n'.parts.items after

-- ---- moves

module _ {S T : Type 0} (meaning : S → Meaning) (stands_after : S → List Event → Type 0) (is_spent : S → Bool) (state : T → TransportState) (may_refuse : T → ℕ → Type 0) where
  -- When a move is enabled, by the move model (FORMATS). Queues hold so many items.
  abbrev pub IsEnabled : ℕ → Move → StationsView (Channels S T) → Bool → Type 0
  IsEnabled capacity (Read channel) c b = MayMove state c.nodes.parts.items head.Read channel b
  IsEnabled capacity (Task x) c b = b ≡ nat_lt 0 (length (queue_at c.stations x))
  IsEnabled capacity (Hand x) c b = b ≡ is_some (oldest capacity c x)
  IsEnabled capacity (Out channel) c b = MayMove state c.nodes.parts.items head.Out channel b

  -- what one that is enabled does
  abbrev pub MakesMove : ℕ → Move → StationsView (Channels S T) → StationsView (Channels S T) → Type 0
  MakesMove capacity (Read channel) c c' = Gives (nodes_view meaning) (nodes_take meaning stands_after is_spent state) (nodes_move state may_refuse) (home_of c.nodes.parts.items channel) head.Read channel c c'
  MakesMove capacity (Task x) c c' = RunsTask (nodes_view meaning) (nodes_take meaning stands_after is_spent state) x c c'
  MakesMove capacity (Hand x) c c' = HandsOldest capacity x c c'
  MakesMove capacity (Out channel) c c' = Gives (nodes_view meaning) (nodes_take meaning stands_after is_spent state) (nodes_move state may_refuse) (home_of c.nodes.parts.items channel) head.Out channel c c'

  -- A move was made where it is enabled (EventLoop), and one that was not changes nothing.
  pub record LeadsTo (capacity : ℕ) (move : Move) (c : StationsView (Channels S T)) (made : Bool) (c' : StationsView (Channels S T)) : Type 0 where
    pub enabled : IsEnabled capacity move c made
    pub makes : made ≡ true → MakesMove capacity move c c'
    pub rests : made ≡ false → Rests c c'

  -- so do several, one after another
  abbrev pub Reaches : ℕ → List Move → StationsView (Channels S T) → StationsView (Channels S T) → Type 0
  Reaches capacity [] c c' = c' ≡ c
  Reaches capacity (move ∷ moves) c c' = (made : Bool) × (mid : StationsView (Channels S T)) × LeadsTo capacity move c made mid × Reaches capacity moves mid c'
