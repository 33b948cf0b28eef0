-- What holds of an executor's nodes, of what they put on its work list and of what waits for others, and what no step of them
-- changes.
use Rattle.std.specs.Prelude.{◌≡◌, ◌≢◌, ◌⊎◌, ◌≤◌, ℕ, true, List, [], ◌∷◌}
use Rattle.pl_event.specs.declared.envelopes.Envelope.{Envelope}
use Rattle.pl_event.specs.Worlds.{World}
use Rattle.pl_context.specs.OutputsViews.{OutputsView}
use Rattle.pl_context.specs.Stops.{HasPlaces}
use Rattle.pl_words.specs.declared.admission.Refused.TheVariants.{Closed}
use Rattle.pl_outbox.specs.Admitting.{AdmitsOnce}
use Rattle.pl_outbox.specs.OutboxViews.{OutboxesView, way_to, Comes, RefusedBy, SendsNothing, SomeClosed}
use Rattle.pl_threads.specs.declared.cores.Core.{Core}
use Rattle.pl_threads.specs.NodesViews.{OwnNodesView, NodesActs, NodesKeep}
use Rattle.pl_threads.specs.Running.{RunsOn}

module _ {W M N S T : Type 0} (view_of : N → OwnNodesView) where
  -- How an executor's core holds between two steps (SingleThreadEventExecutor). Of each lane that the nodes write, what is on
  -- the list follows what went on, up to what was made; one of them has failed by a refusal only where some seat has seen its
  -- target closed; and no more was admitted than left the list.
  pub record CoreHolds (stands : N → Type 0) (world : World) (c : Core W M N S T) : Type 0 where
    pub stood : stands c.nodes
    pub at : (view_of c.nodes).executor ≡ c.number
    pub places : HasPlaces c.work.stopped (view_of c.nodes).lanes.places
    pub runs : RunsOn world c.number (view_of c.nodes).lanes c.outboxes c.work
    pub why : (view_of c.nodes).was_refused ≡ true → SomeClosed c.outboxes
    pub admits : AdmitsOnce (view_of c.nodes).lanes c.outboxes c.work

  -- What stays while an executor works. Those are its number and what no call of its nodes changes; and nothing is sent.
  pub record CoreKeeps (c c' : Core W M N S T) : Type 0 where
    pub number : c'.number ≡ c.number
    pub nodes : NodesKeep (view_of c.nodes) (view_of c'.nodes)
    pub sends : SendsNothing c.outboxes c'.outboxes

-- The nodes of an executor at work, what waits for others, and the work list.
pub record AtWork (N : Type 0) : Type 0 where
  pub nodes : N
  pub outboxes : OutboxesView
  pub work : OutputsView

-- the executor's nodes, what waits for others, the list
abbrev pub at_work : {W M N S T : Type 0} → Core W M N S T → AtWork N
at_work c = record { nodes = c.nodes; outboxes = c.outboxes; work = c.work }

-- A work list without its front.
pub record IsRest (work : OutputsView) (front : Envelope) (rest : OutputsView) : Type 0 where
  pub items : work.items ≡ front ∷ rest.items
  pub stopped : rest.stopped ≡ work.stopped
  pub room : work.room ≤ rest.room

module _ {N : Type 0} (view_of : N → OwnNodesView) (acts : NodesActs N) where
  -- What became of an item for another executor: it comes last there, or what stands in for it. Or that executor was found
  -- closed, and the node that writes the item's lane has given up.
  abbrev pub Departs : AtWork N → Envelope → OutputsView → AtWork N → Type 0
  Departs a x rest b = (Comes a.outboxes (way_to a.outboxes ((view_of a.nodes).lanes.target x.lane)) x b.outboxes × (b.nodes ≡ a.nodes) × (b.work ≡ rest))
      ⊎ (RefusedBy a.outboxes (way_to a.outboxes ((view_of a.nodes).lanes.target x.lane)) Closed b.outboxes × acts.gave_up b.nodes x.lane × acts.refuses a.nodes x.lane rest b.nodes b.work)

  module _ (me : ℕ) where
    -- The front of the work list has left it. A node here took it, or it departed.
    pub record FrontGoes (front : Envelope) (a b : AtWork N) : Type 0 where
      pub rest : OutputsView
      pub is_front : IsRest a.work front rest
      pub here : (view_of a.nodes).lanes.target front.lane ≡ me → acts.takes a.nodes front rest b.nodes b.work × (b.outboxes ≡ a.outboxes)
      pub away : (view_of a.nodes).lanes.target front.lane ≢ me → Departs a front rest b

    -- One front after another has left it. What was between is told the latest first.
    abbrev pub FrontsGo : AtWork N → List (AtWork N) → AtWork N → Type 0
    FrontsGo a [] b = b ≡ a
    FrontsGo a (m ∷ ms) b = FrontsGo a ms m × ((front : Envelope) × FrontGoes front m b)

    -- The whole work list was worked off.
    pub record WorksOff (a : AtWork N) (nodes' : N) (o' : OutboxesView) : Type 0 where
      pub between : List (AtWork N)
      pub last : OutputsView
      pub go : FrontsGo a between (record { nodes = nodes'; outboxes = o'; work = last })
      pub empty : last.items ≡ []

    -- A call of the nodes was made and worked off. It has done this, and what it put on the list was worked off.
    pub record WorksOffAfter (does : N → OutputsView → Type 0) (o : OutboxesView) (nodes' : N) (o' : OutboxesView) : Type 0 where
      pub nodes : N
      pub work : OutputsView
      pub done : does nodes work
      pub works : WorksOff (record { nodes = nodes; outboxes = o; work = work }) nodes' o'
