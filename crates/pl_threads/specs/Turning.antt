-- What one turn of an executor does.
use Rattle.std.specs.Prelude.{◌≡◌, ◌≢◌, ◌⊎◌, ℕ, false, List, [], ◌∷◌, Some, None}
use Rattle.std.specs.Option.{option_map}
use Rattle.pl_event.specs.declared.envelopes.Envelope.{Envelope}
use Rattle.pl_flow.specs.declared.head_moves.HeadMove.{HeadMove}
use Rattle.pl_flow.specs.declared.head_moves.HeadMove.TheVariants.{Read, Out}
use Rattle.pl_context.specs.OutputsViews.{OutputsView}
use Rattle.pl_context.specs.WaitingViews.{Entry, Holds}
use Rattle.pl_queue.specs.declared.views.SenderView.{SenderView}
use Rattle.pl_queue.specs.Views.{after_offer, after_take}
use Rattle.pl_words.specs.Admissions.{AdmittedView, OwnerSeatView}
use Rattle.pl_outbox.specs.OutboxViews.{OutboxesView, Sends, sends_for, waits_for, oldest_untried, SameFor, SendsNothing, is_closed}
use Rattle.pl_threads.specs.Cores.{WorksOffAfter}
use Rattle.pl_threads.specs.NodesViews.{OwnNodesView, NodesActs}
use Rattle.pl_threads.specs.Running.{ExecutorView}

-- The oldest that waited at a way whose queue was not full was sent by it, and nothing else was sent.
pub record SendsOne (o o' : OutboxesView) : Type 0 where
  pub way : ℕ
  pub oldest : (entries : List (Entry AdmittedView)) → Holds o.waiting entries → oldest_untried o' entries ≡ Some way
  pub envelope : Envelope
  pub behind : List Envelope
  pub first : waits_for o way ≡ envelope ∷ behind
  pub sends : sends_for o' way ≡ option_map (λ (s : SenderView). after_offer s envelope) (sends_for o way)
  pub others : (y : ℕ) → y ≢ way → sends_for o' y ≡ sends_for o y

-- Nothing was sent, and nothing waited but for queues that were full.
pub record SendsNone (o o' : OutboxesView) : Type 0 where
  pub oldest : (entries : List (Entry AdmittedView)) → Holds o.waiting entries → oldest_untried o' entries ≡ None
  pub sends : (y : ℕ) → sends_for o' y ≡ sends_for o y

-- at most one envelope was sent
abbrev pub SendsAtMostOne : OutboxesView → OutboxesView → Type 0
SendsAtMostOne o o' = SendsNone o o' ⊎ SendsOne o o'

-- At most one envelope was taken. None was once its queue was closed.
abbrev pub TakesAtMostOne : {N : Type 0} → ExecutorView N → ExecutorView N → Type 0
TakesAtMostOne e e' = (e'.takes ≡ e.takes) ⊎ ((is_closed e.owner.phase ≡ false) × (x : Envelope) × (e'.takes ≡ after_take e.takes x))

-- Nothing was taken, handed over, read or written.
pub record IsStill {N : Type 0} (e e' : ExecutorView N) : Type 0 where
  pub nodes : e'.nodes ≡ e.nodes
  pub takes : e'.takes ≡ e.takes
  pub outboxes : (y : ℕ) → SameFor e.outboxes e'.outboxes y

-- Nothing was taken or handed over, and its queue and its turn are as they were: only its nodes may have moved.
pub record OnlyServes {N : Type 0} (e e' : ExecutorView N) : Type 0 where
  pub number : e'.number ≡ e.number
  pub takes : e'.takes ≡ e.takes
  pub sends : SendsNothing e.outboxes e'.outboxes
  pub owner : e'.owner ≡ e.owner
  pub turns : e'.turns ≡ e.turns

-- ---- what it does, one after another

-- At most one was handed over: the first that waited at some way. Only what waits, and what was sent, may have changed.
pub record Hands {N : Type 0} (e e' : ExecutorView N) : Type 0 where
  pub same : e' ≡ record e { outboxes = e'.outboxes }
  pub sends : ((y : ℕ) → SameFor e.outboxes e'.outboxes y) ⊎ ((way : ℕ) × Sends e.outboxes way e'.outboxes)

module _ {N : Type 0} (view_of : N → OwnNodesView) (acts : NodesActs N) where
  -- A node took what was taken from the queue, with nothing on the work list before, and that list was worked off.
  pub record TakesTask (task : Envelope) (e e' : ExecutorView N) : Type 0 where
    pub work : OutputsView
    pub empty : work.items ≡ []
    pub works : WorksOffAfter view_of acts e.number (acts.takes e.nodes task work) e.outboxes e'.nodes e'.outboxes

  -- A node took one item from the queue. The queue is not closed, and the node took what was taken from it.
  abbrev pub TakesOne : ExecutorView N → ExecutorView N → Type 0
  TakesOne e e' = (is_closed e.owner.phase ≡ false) × (x : Envelope) × (e'.takes ≡ after_take e.takes x) × TakesTask x e e'

  -- Nothing was taken, or one item; its number, its right to its queue and its turn are as they were.
  pub record Tasks (e e' : ExecutorView N) : Type 0 where
    pub number : e'.number ≡ e.number
    pub owner : e'.owner ≡ e.owner
    pub turns : e'.turns ≡ e.turns
    pub takes : (e' ≡ e) ⊎ TakesOne e e'

  -- The head of the channel at a position made a move, with nothing on the work list before, and that list was worked off.
  pub record MovesHead (by : HeadMove) (at : ℕ) (e e' : ExecutorView N) : Type 0 where
    pub work : OutputsView
    pub empty : work.items ≡ []
    pub works : WorksOffAfter view_of acts e.number (acts.moves e.nodes by at work) e.outboxes e'.nodes e'.outboxes

  -- It made one, or none; nothing else was done.
  pub record Moves (by : HeadMove) (at : ℕ) (e e' : ExecutorView N) : Type 0 where
    pub serves : OnlyServes e e'
    pub moves : (e' ≡ e) ⊎ MovesHead by at e e'

  -- The head of one channel made a read step and then a write, or one of these, or none.
  pub record ServesOne (e e' : ExecutorView N) : Type 0 where
    pub at : ℕ
    pub between : ExecutorView N
    pub reads : Moves Read at e between
    pub writes : Moves Out at between e'

  -- What one turn does (EventLoop): at most one is handed over, then one taken, then one channel served.
  pub record Turns (e e' : ExecutorView N) : Type 0 where
    pub handed : ExecutorView N
    pub ran : ExecutorView N
    pub hands : Hands e handed
    pub tasks : Tasks handed ran
    pub serves : ServesOne ran e'

-- The executor that a thread is to run, by its number and its right to its queue, its first turn there, and who is told of it.
pub record Threaded (G : Type 0) : Type 0 where
  pub gate : G
  pub number : ℕ
  pub turn : ℕ
  pub owner : OwnerSeatView
