-- What is on its way between executors of which one runs: of each lane that is written, what is queued follows what was taken,
-- what waits to be handed over follows that, and what stands on the work list follows both, up to what was made.
use Rattle.std.specs.Prelude.{◌≡◌, ◌≢◌, ◌⊎◌, ℕ, zero, suc, ◌+◌, ◌<◌, ◌≤◌, ◌^◌, ◌==◌, ◌&&◌, Bool, true, false, List, [], ◌∷◌, ◌++◌, length, map, position, remove, nat_lt, slice_get, All, Option, Some}
use Rattle.std.specs.Option.{option_map, option_map_or}
use Rattle.pl_event.specs.declared.envelopes.Envelope.{Envelope}
use Rattle.pl_event.specs.declared.envelopes.Lane.{Lane}
use Rattle.pl_event.specs.Worlds.{World}
use Rattle.pl_context.specs.Stops.{StopsView, no_stops, has_stopped, HasPlaces, AreAmong}
use Rattle.pl_context.specs.OutputsViews.{OutputsView, added_items}
use Rattle.pl_context.specs.WaitingViews.{WaitingView, Entry, Holds, WaitingAdds, Takes, stops_for}
use Rattle.pl_flow.specs.Flows.{Point, point, on, IsFlow, past}
use Rattle.pl_flow.specs.LaneRuns.{LaneRuns}
use Rattle.pl_flow.specs.declared.head_moves.HeadMove.{HeadMove}
use Rattle.pl_net.specs.NodesViews.{NodesView, written_by}

-- What waits at an executor. It was handed over to it and not taken; or it was made there for others, and not handed
-- over.
pub record StationView : Type 0 where
  pub queue : List Envelope
  pub waiting : WaitingView Unit
  -- for how many more the queue has memory
  pub room : ℕ

-- the queue of an executor
abbrev pub queue_at : List StationView → ℕ → List Envelope
queue_at stations y = option_map_or (λ e. e.queue) (slice_get stations y) []

-- the lanes stopped from one executor to another
abbrev pub stops_at : List StationView → ℕ → ℕ → StopsView
stops_at stations x y = option_map_or (λ e. stops_for e.waiting y) (slice_get stations x) (no_stops 0)

-- the envelopes of a backlog, the oldest first
abbrev pub envelopes : List (Entry Unit) → List Envelope
envelopes entries = map (λ e. e.envelope) entries

-- One lane: what is queued follows what was taken, and what waits follows that. What stands on the list follows both and goes
-- up to what was made, unless the lane is cut off or has stopped.
pub record LaneStands (world : World) (base : Point) (queued waits : List Envelope) (cut stopped : Bool) (listed : List Envelope) (made : Point) : Type 0 where
  pub between : IsFlow world base (queued ++ waits)
  pub runs : LaneRuns world (past base (queued ++ waits)) cut stopped listed made

module _ (world : World) (v : NodesView) where
  -- The lane account (EventLoop, account_law): of each lane, what is queued, waits and is listed follow what was
  -- taken. Executor x runs, and has this on its work list. The backlogs are those of the executors, by number.
  pub record NetRuns (x : ℕ) (stations : List StationView) (backlogs : ℕ → List (Entry Unit)) (work : OutputsView) : Type 0 where
    pub lanes : (l : Lane) → v.lanes.written l ≡ true
        → (over : Bool) × LaneStands world (point (v.lanes.taken l) over) (on l (queue_at stations (v.lanes.target l))) (on l (envelopes (backlogs (v.origin l))))
        (has_stopped (stops_at stations (v.origin l) (v.lanes.target l)) l) (has_stopped work.stopped l) (on l work.items) (v.lanes.came l)
    -- an item for the executor on which it was made is never queued, nor does it wait
    pub direct : (l : Lane) → v.lanes.written l ≡ true → v.origin l ≡ v.lanes.target l
        → (on l (queue_at stations (v.lanes.target l)) ≡ []) × (on l (envelopes (backlogs (v.origin l))) ≡ []) × (has_stopped (stops_at stations (v.origin l) (v.lanes.target l)) l ≡ false)
    -- nothing else is anywhere
    pub listed : (l : Lane) → written_by v x l ≡ false → on l work.items ≡ []
    pub queued : (y : ℕ) (l : Lane) → (v.lanes.written l && (v.lanes.target l == y)) ≡ false → on l (queue_at stations y) ≡ []
    pub waits : (y : ℕ) (l : Lane) → written_by v y l ≡ false → on l (envelopes (backlogs y)) ≡ []
    pub entries : (y : ℕ) → All (λ e. e.target ≡ v.lanes.target e.envelope.lane) (backlogs y)
    pub holds : (y : ℕ) (e : StationView) → slice_get stations y ≡ Some e → Holds e.waiting (backlogs y)
    pub targets : (y : ℕ) (e : StationView) → slice_get stations y ≡ Some e → length e.waiting.targets ≡ length stations
    pub there : (l : Lane) → v.lanes.written l ≡ true → (v.origin l < length stations) × (v.lanes.target l < length stations)
    -- each lane has its place on the way to its executor
    pub hops : ℕ → ℕ → List Lane
    pub placed : (y z : ℕ) → y < length stations → z < length stations → HasPlaces (stops_at stations y z) (hops y z)
    pub among : (l : Lane) → v.lanes.written l ≡ true → AreAmong (l ∷ []) (hops (v.origin l) (v.lanes.target l))

-- At most one addition to a backlog for each item that was made, but for those on the list.
pub record AreFew (v : NodesView) (stations : List StationView) (work : OutputsView) : Type 0 where
  pub added : (y : ℕ) (e : StationView) → slice_get stations y ≡ Some e → e.waiting.added + length work.items ≤ v.work_done
  pub few : v.work_done < 2 ^ 62

-- an item was added to a backlog, or what stands in for it
pub record IsAdded (e : StationView) (target : ℕ) (x : Envelope) (e' : StationView) : Type 0 where
  pub back : Option Unit
  pub adds : WaitingAdds e.waiting target x tt back e'.waiting
  pub queue : e'.queue ≡ e.queue

-- the oldest item for a target was taken out of a backlog, where there is one
pub record IsTakenOut (e : StationView) (target : ℕ) (result : Option Envelope) (e' : StationView) : Type 0 where
  pub takes : (entries : List (Entry Unit)) → Holds e.waiting entries → Takes e.waiting entries target (option_map (λ x. (x, tt)) result) e'.waiting
  pub queue : e'.queue ≡ e.queue
  pub room : e'.room ≡ e.room
  pub added : e'.waiting.added ≡ e.waiting.added

-- how much was done by all nodes, and by adding to the backlog of executor x
abbrev pub done_by : NodesView → ℕ → List StationView → ℕ
done_by v x stations = v.work_done + option_map_or (λ e. e.waiting.added) (slice_get stations x) 0

-- ---- stations

-- The nodes, what waits at each executor, the backlogs that are kept there, and the work list of the one that runs.
pub record StationsView (N : Type 0) : Type 0 where
  pub nodes : N
  pub stations : List StationView
  pub backlogs : ℕ → List (Entry Unit)
  pub work : OutputsView

module _ {N : Type 0} (view_of : N → NodesView) where
  -- Stations stand in a world while executor x runs. Their nodes hold, and their work list has places for all lanes.
  pub record StationsStand (stands : World → N → Type 0) (world : World) (x : ℕ) (c : StationsView N) : Type 0 where
    pub hold : stands world c.nodes
    pub runs : NetRuns world (view_of c.nodes) x c.stations c.backlogs c.work
    pub counts : AreFew (view_of c.nodes) c.stations c.work
    pub places : HasPlaces c.work.stopped (view_of c.nodes).lanes.places

  module _ (takes : N → Envelope → OutputsView → N → OutputsView → Type 0) (x : ℕ) where
    -- The node that the front of the list is for takes it: a direct call.
    pub record IsCall (c : StationsView N) (e : Envelope) (mid : OutputsView) (c' : StationsView N) : Type 0 where
      pub here : (view_of c.nodes).lanes.target e.lane ≡ x
      pub taken : takes c.nodes e mid c'.nodes c'.work
      pub stations : c'.stations ≡ c.stations
      pub backlogs : c'.backlogs ≡ c.backlogs

    -- It is for another executor, and is kept for that, or what stands in for it.
    pub record IsKeep (c : StationsView N) (e : Envelope) (mid : OutputsView) (c' : StationsView N) : Type 0 where
      pub away : (view_of c.nodes).lanes.target e.lane ≢ x
      pub nodes : c'.nodes ≡ c.nodes
      pub work : c'.work ≡ mid
      pub before : StationView
      pub after : StationView
      pub added : IsAdded before ((view_of c.nodes).lanes.target e.lane) e after
      pub was : slice_get c.stations x ≡ Some before
      pub is : slice_get c'.stations x ≡ Some after
      pub others : (y : ℕ) → y ≢ x → (slice_get c'.stations y ≡ slice_get c.stations y) × (c'.backlogs y ≡ c.backlogs y)
      pub backlog : c'.backlogs x ≡ c.backlogs x ++ map (λ z. record { target = (view_of c.nodes).lanes.target e.lane; envelope = z; token = tt }) (added_items added.adds.answer e)

    -- Executor x takes the front of its list.
    pub record IsStep (c c' : StationsView N) : Type 0 where
      pub envelope : Envelope
      pub mid : OutputsView
      pub front : c.work.items ≡ envelope ∷ mid.items
      pub stopped : mid.stopped ≡ c.work.stopped
      -- what there was room for there still is
      pub room : c.work.room ≤ mid.room
      pub becomes : IsCall c envelope mid c' ⊎ IsKeep c envelope mid c'

    -- So many steps lead from one to the other.
    abbrev pub Steps : ℕ → StationsView N → StationsView N → Type 0
    Steps zero c c' = c' ≡ c
    Steps (suc n) c c' = (m : StationsView N) × Steps n c m × IsStep m c'

    -- It works its list off.
    pub record WorksListOff (c c' : StationsView N) : Type 0 where
      pub count : ℕ
      pub steps : Steps count c c'
      pub empty : c'.work.items ≡ []

    -- Executor x runs a task (EventLoop). It takes the front of its queue, and works off what comes of that.
    pub record RunsTask (c c' : StationsView N) : Type 0 where
      pub envelope : Envelope
      pub before : StationView
      pub after : StationView
      pub was : slice_get c.stations x ≡ Some before
      pub front : before.queue ≡ envelope ∷ after.queue
      pub waiting : after.waiting ≡ before.waiting
      pub mid : StationsView N
      pub is : slice_get mid.stations x ≡ Some after
      pub others : (y : ℕ) → y ≢ x → slice_get mid.stations y ≡ slice_get c.stations y
      pub backlogs : mid.backlogs ≡ c.backlogs
      pub taken : takes c.nodes envelope c.work mid.nodes mid.work
      pub settles : WorksListOff mid c'

-- The head of a channel has made a move. Executor x works off what comes of that.
pub record Gives {N : Type 0} (view_of : N → NodesView) (takes : N → Envelope → OutputsView → N → OutputsView → Type 0) (moves : N → HeadMove → ℕ → OutputsView → N → OutputsView → Type 0) (x : ℕ) (by : HeadMove) (channel : ℕ) (c c' : StationsView N) : Type 0 where
  pub nodes : N
  pub work : OutputsView
  pub moved : moves c.nodes by channel c.work nodes work
  pub settles : WorksListOff view_of takes x (record c { nodes = nodes; work = work }) c'

-- The head of a channel was aborted. Executor x works off what comes of that.
pub record AbortsHead {N : Type 0} (view_of : N → NodesView) (takes : N → Envelope → OutputsView → N → OutputsView → Type 0) (aborts : N → ℕ → OutputsView → N → OutputsView → Type 0) (x : ℕ) (channel : ℕ) (c c' : StationsView N) : Type 0 where
  pub nodes : N
  pub work : OutputsView
  pub aborted : aborts c.nodes channel c.work nodes work
  pub settles : WorksListOff view_of takes x (record c { nodes = nodes; work = work }) c'

-- ---- before any move

-- Nothing has moved yet. Nothing is on its way, nothing was taken or made of any lane, and each lane has its place on
-- the way to its executor.
pub record IsStart (v : NodesView) (stations : List StationView) : Type 0 where
  pub queues : (y : ℕ) (e : StationView) → slice_get stations y ≡ Some e → (e.queue ≡ []) × Holds e.waiting [] × (e.waiting.added ≡ 0) × (length e.waiting.targets ≡ length stations)
  pub unstopped : (y z : ℕ) (l : Lane) → has_stopped (stops_at stations y z) l ≡ false
  pub taken : (l : Lane) → v.lanes.written l ≡ true → v.lanes.taken l ≡ 0
  pub came : (l : Lane) → v.lanes.written l ≡ true → v.lanes.came l ≡ point 0 false
  pub there : (l : Lane) → v.lanes.written l ≡ true → (v.origin l < length stations) × (v.lanes.target l < length stations)
  pub hops : ℕ → ℕ → List Lane
  pub placed : (y z : ℕ) → y < length stations → z < length stations → HasPlaces (stops_at stations y z) (hops y z)
  pub among : (l : Lane) → v.lanes.written l ≡ true → AreAmong (l ∷ []) (hops (v.origin l) (v.lanes.target l))
  pub few : v.work_done < 2 ^ 62

-- backlogs in which nothing waits
abbrev pub no_backlogs : ℕ → List (Entry Unit)
no_backlogs y = []

-- ---- a hand-over

-- The queue of an executor has room. One holds so many items.
abbrev pub has_room : List StationView → ℕ → ℕ → Bool
has_room stations capacity y = option_map_or (λ e. nat_lt (length e.queue) capacity) (slice_get stations y) false

-- the queue of an executor has memory for so many items more
abbrev pub memory_at : List StationView → ℕ → ℕ
memory_at stations y = option_map_or (λ e. e.room) (slice_get stations y) 0

-- A hand-over finds no memory. It is that of the oldest entry of the backlog of executor x whose target has room,
-- where a queue holds so many items: the queue of that target has no memory for it.
pub record LacksMemory {N : Type 0} (capacity x : ℕ) (c : StationsView N) : Type 0 where
  pub i : ℕ
  pub entry : Entry Unit
  pub oldest : position (λ e. has_room c.stations capacity e.target) (c.backlogs x) ≡ Some i
  pub is : slice_get (c.backlogs x) i ≡ Some entry
  pub memory : memory_at c.stations entry.target ≡ 0

-- One item was handed over (EventLoop). The entry at i of the backlog of executor x has gone to the end of its
-- target's queue. Nothing else has moved.
pub record HandsOver {N : Type 0} (x i : ℕ) (c c' : StationsView N) : Type 0 where
  pub entry : Entry Unit
  pub is : slice_get (c.backlogs x) i ≡ Some entry
  pub nodes : c'.nodes ≡ c.nodes
  pub work : c'.work ≡ c.work
  pub queue : queue_at c'.stations entry.target ≡ queue_at c.stations entry.target ++ entry.envelope ∷ []
  pub queues : (y : ℕ) → y ≢ entry.target → queue_at c'.stations y ≡ queue_at c.stations y
  pub backlog : c'.backlogs x ≡ remove (c.backlogs x) i
  pub backlogs : (y : ℕ) → y ≢ x → c'.backlogs y ≡ c.backlogs y
  pub stops : (y z : ℕ) → stops_at c'.stations y z ≡ stops_at c.stations y z
