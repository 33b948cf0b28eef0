-- An executor while it works its list off: of each lane that its nodes write, what stands on the list follows what went on,
-- up to what was made.
use Rattle.std.specs.Prelude.{◌≡◌, ◌≢◌, ℕ, ◌<◌, ◌^◌, ◌-◌, min, Bool, true, false, List, [], ◌∷◌, length, Option, Some}
use Rattle.pl_event.specs.declared.envelopes.Lane.{Lane}
use Rattle.pl_event.specs.Worlds.{World}
use Rattle.pl_context.specs.Stops.{has_stopped, HasPlaces, AreAmong}
use Rattle.pl_context.specs.OutputsViews.{OutputsView}
use Rattle.pl_context.specs.WaitingViews.{WaitingView, stops_for}
use Rattle.pl_queue.specs.declared.views.TakeCount.{TakeCount}
use Rattle.pl_queue.specs.declared.views.TakerView.{TakerView}
use Rattle.pl_queue.specs.Views.{next_of}
use Rattle.pl_words.specs.Admissions.{AdmittedView, OwnerSeatView, SendSeatView}
use Rattle.pl_flow.specs.Flows.{point, on}
use Rattle.pl_flow.specs.LanesViews.{LanesView}
use Rattle.pl_flow.specs.LaneRuns.{LaneRuns}
use Rattle.pl_outbox.specs.OutboxViews.{OutboxesView, way_to, reached, is_cut, is_closed, waits_in}
use Rattle.pl_threads.specs.NodesViews.{OwnNodesView}

-- of each lane, what the list of an executor of this number has follows what went on (SingleThreadEventExecutor)
pub record RunsOn (world : World) (me : ℕ) (v : LanesView) (o : OutboxesView) (work : OutputsView) : Type 0 where
  pub own : (l : Lane) → v.target l ≡ me → v.written l ≡ true → (over : Bool) × LaneRuns world (point (v.taken l) over) false (has_stopped work.stopped l) (on l work.items) (v.came l)
  pub away : (l : Lane) → v.target l ≢ me → v.written l ≡ true → LaneRuns world (reached o (way_to o (v.target l)) l) (is_cut o (way_to o (v.target l)) l) (has_stopped work.stopped l) (on l work.items) (v.came l)
  pub others : (l : Lane) → v.written l ≡ false → on l work.items ≡ []
  -- there is a way for each lane that is written, with a place for it
  pub there : (l : Lane) → v.written l ≡ true → v.target l ≢ me → way_to o (v.target l) < length o.outboxes
  pub hops : ℕ → List Lane
  pub placed : (y : ℕ) → y < length o.outboxes → HasPlaces (stops_for o.waiting y) (hops y)
  pub among : (l : Lane) → v.written l ≡ true → AreAmong (l ∷ []) (hops (way_to o (v.target l)))

-- What a taker is to take is the nodes' next. It enters one of the executor's nodes, and none of them writes it.
abbrev pub IsTaking : ℕ → LanesView → List TakeCount → Type 0
IsTaking me v counts =
    (l : Lane) (n : ℕ) → next_of l counts ≡ Some n → (v.target l ≡ me) × (v.written l ≡ false) × (v.taken l ≡ n)

-- An executor between two of its turns. It has its number, its nodes, its way out, what it knows of its queue, its
-- right to close that, and the number of its next turn.
pub record ExecutorView (N : Type 0) : Type 0 where
  pub number : ℕ
  pub nodes : N
  pub outboxes : OutboxesView
  pub takes : TakerView
  pub owner : OwnerSeatView
  pub turns : ℕ

-- How many envelopes were taken from a queue. They are counted up to the last number of a u64. And whether it was
-- closed: then with as many.
pub record IsCounting (owner : OwnerSeatView) (shut : Bool) (ran pops : ℕ) : Type 0 where
  pub closed : shut ≡ is_closed owner.phase
  pub run : ran ≡ min pops (2 ^ 64 - 1)
  pub count : is_closed owner.phase ≡ true → owner.run ≡ pops

-- What an executor leaves. It leaves its number, its nodes, its right to close its queue, what it took from that,
-- what waits for others, and the first seat that has seen its target closed.
pub record FinishedView (N : Type 0) : Type 0 where
  pub number : ℕ
  pub nodes : N
  pub owner : OwnerSeatView
  pub takes : TakerView
  pub waiting : WaitingView AdmittedView
  pub refusal : Option SendSeatView

module _ {N : Type 0} (view_of : N → OwnNodesView) where
  -- An executor has ended: its queue is closed, and nothing waits. That was closed with as many as were taken. One of
  -- its nodes has failed by a refusal only where a seat has seen its target closed.
  pub record IsFinished (f : FinishedView N) : Type 0 where
    pub closed : is_closed f.owner.phase ≡ true
    pub count : f.owner.run ≡ f.takes.pops
    pub drained : (y : ℕ) → waits_in f.waiting y ≡ []
    pub why : (view_of f.nodes).was_refused ≡ true → (seat : SendSeatView) × (f.refusal ≡ Some seat) × (is_closed seat.seen ≡ true)

  -- The executor of this number has ended so. It had this right to its own queue: its nodes are those of its number,
  -- and the right is that to the same queue.
  pub record EndsAs (me : ℕ) (owner : OwnerSeatView) (f : FinishedView N) : Type 0 where
    pub number : f.number ≡ me
    pub at : (view_of f.nodes).executor ≡ me
    pub name : f.owner.name ≡ owner.name
    pub finished : IsFinished f
