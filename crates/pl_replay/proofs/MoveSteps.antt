-- A move leads from one stand of a net to the next.
use Rattle.std.proofs.Common.{◌≡◌, ℕ, suc, ◌<◌, Bool, true, false, List, [], ◌∷◌, length, map, get_or, nat_lt, Option, Some, None, refl, ap, sym, ◌∙◌, subst, arith}
use Rattle.std.specs.Prelude.{is_some, vec_len}
use Rattle.std.proofs.lemmas.Bool.{ltb-true, lt-ltb, both_ways}
use Rattle.std.proofs.lemmas.Option.{slice_get-get_or}
use Rattle.pl_event.specs.declared.events.Event.{Event}
use Rattle.pl_event.specs.Meaning.{Meaning}
use Rattle.pl_event.specs.Worlds.{World}
use Rattle.pl_event.proofs.Lists.{All-at, at-index}
use Rattle.pl_event.specs.declared.envelopes.Envelope.{Envelope}
use Rattle.pl_context.specs.OutputsViews.{OutputsView}
use Rattle.pl_context.specs.WaitingViews.{Entry}
use Rattle.pl_head.specs.Transports.{TransportState}
use Rattle.pl_net.specs.Stations.{stations_view, waits_of, IsUnmoved, IsUnmovedButRoom}
use Rattle.pl_part.specs.Parts.{ChannelPartView, head_hop}
use Rattle.std.specs.Option.{option_map_or}
use Rattle.pl_net.specs.Nets.{StationsView, StationView, StationsStand, RunsTask, HandsOver, queue_at}
use Rattle.pl_net.specs.declared.stations.Stations.{Stations}
use Rattle.pl_net.proofs.StationSteps.{rest-stands}
use Rattle.pl_channel.specs.Lanes.{world_of}
use Rattle.pl_channel.specs.PlanStand.{PartsKeepPlan}
use Rattle.pl_channel.specs.Channels.{home_of, executor_at}
use Rattle.pl_replay.specs.Moves.{nodes_view, nodes_stand, nodes_take, oldest, IsEnabled, MakesMove, LeadsTo}
use Rattle.pl_replay.specs.NetStand.{NetStands}
use Rattle.pl_replay.specs.declared.channels.Channels.{Channels}
use Rattle.pl_replay.proofs.PlanKept.{makes-keeps}
use Rattle.pl_world.specs.declared.moves.Move.{Move}
use Rattle.pl_world.specs.declared.moves.Move.TheVariants.{Hand}
use Rattle.pl_world.specs.Plans.{Plan}
use Rattle.pl_world.specs.PlanRules.{IsChannelPlan}

same-view : {N : Type 0} (c c' : Stations N) (backlogs : ℕ → List (Entry (Unit {0}))) → IsUnmoved c c' → stations_view c' backlogs ≡ stations_view c backlogs
same-view c c' backlogs same = let n = same.nodes in let e = same.stations in let w = same.work in cc

pub not-moved : {N : Type 0} (c c' : Stations N) → c' ≡ c → IsUnmoved c c'
not-moved c c' same = record {
  nodes = ap (λ (k : Stations _). k.nodes) same;
  stations = ap (λ (k : Stations _). k.stations.items) same;
  work = ap (λ (k : Stations _). k.work) same;
}

module _ {S T : Type 0} (meaning : S → Meaning) (stands_after : S → List Event → Type 0) (is_spent : S → Bool) (state : T → TransportState) (may_refuse : T → ℕ → Type 0) where
  -- A move was to be made: the net stands by the plan that it had, and the move has led there, or nothing has moved.
  abbrev pub GoesOn : Move → Stations (Channels S T) → Bool → Stations (Channels S T) → Type 0
  GoesOn move stations made stations' = (plan : Plan) (backlogs : ℕ → List (Entry (Unit {0}))) → NetStands meaning stands_after state plan backlogs stations
      → (after : ℕ → List (Entry (Unit {0}))) × NetStands meaning stands_after state plan after stations'
      × LeadsTo meaning stands_after is_spent state may_refuse plan.capacity move (stations_view stations backlogs) made (stations_view stations' after)

  -- so some plan is still kept
  pub stands-on : (move : Move) (stations : Stations (Channels S T)) (made : Bool) (stations' : Stations (Channels S T)) → GoesOn move stations made stations'
      → (plan : Plan) × (backlogs : ℕ → List (Entry (Unit {0}))) × NetStands meaning stands_after state plan backlogs stations → (plan : Plan) × (backlogs : ℕ → List (Entry (Unit {0}))) × NetStands meaning stands_after state plan backlogs stations'
  stands-on move stations made stations' on some = let t = on some.0 some.1 some.2 in (some.0, t.0, t.1)

  -- Stations that keep their capacity and executors, and whose nodes keep the plan, stand after a move as before it.
  goes-on : (plan : Plan) (backlogs after : ℕ → List (Entry (Unit {0}))) (stations stations' : Stations (Channels S T)) (x : ℕ) → NetStands meaning stands_after state plan backlogs stations
      → stations'.capacity ≡ stations.capacity → vec_len stations'.stations ≡ vec_len stations.stations → stations'.work.items ≡ []
      → StationsStand (nodes_view meaning) (nodes_stand meaning stands_after state) (world_of false plan) x (stations_view stations' after)
      → PartsKeepPlan state plan stations'.nodes.parts.items → NetStands meaning stands_after state plan after stations'
  goes-on plan backlogs after stations stations' x n capacity count empty stands keeps = record {
    ruled = n.ruled;
    small = n.small;
    stands = rest-stands (nodes_view meaning) (nodes_stand meaning stands_after state) (world_of false plan) x 0 (stations_view stations' after) empty stands;
    rests = empty;
    capacity = capacity ∙ n.capacity;
    executors = sym stations'.stations.ok.0 ∙ count ∙ stations.stations.ok.0 ∙ n.executors;
    keeps = keeps;
  }

  -- A move was to be made: it was, and led from this stand to another; or nothing has moved.
  pub made-goes-on : (move : Move) (stations stations' : Stations (Channels S T)) (made : Bool) (x : ℕ) (plan : Plan) (backlogs : ℕ → List (Entry (Unit {0})))
      → IsEnabled meaning stands_after is_spent state may_refuse plan.capacity move (stations_view stations backlogs) made
      → (made ≡ true → (after : ℕ → List (Entry (Unit {0}))) × StationsStand (nodes_view meaning) (nodes_stand meaning stands_after state) (world_of false plan) x (stations_view stations' after)
      × MakesMove meaning stands_after is_spent state may_refuse plan.capacity move (stations_view stations backlogs) (stations_view stations' after))
      → (made ≡ false → IsUnmoved stations stations') → stations'.capacity ≡ stations.capacity → vec_len stations'.stations ≡ vec_len stations.stations → stations'.work.items ≡ []
      → NetStands meaning stands_after state plan backlogs stations
      → (after : ℕ → List (Entry (Unit {0}))) × NetStands meaning stands_after state plan after stations'
      × LeadsTo meaning stands_after is_spent state may_refuse plan.capacity move (stations_view stations backlogs) made (stations_view stations' after)
  made-goes-on move stations stations' true x plan backlogs enabled runs idle capacity count empty n =
      let ran = runs refl in (
        ran.0,
        goes-on plan backlogs ran.0 stations stations' x n capacity count empty ran.1 (makes-keeps meaning stands_after is_spent state may_refuse plan false plan.capacity move (stations_view stations backlogs) (stations_view stations' ran.0) n.stands.hold ran.2 n.keeps),
        record { enabled = enabled; makes = λ _. ran.2; rests = λ no. absurd (both_ways true no refl) },
      )
  made-goes-on move stations stations' false x plan backlogs enabled runs idle capacity count empty n =
      let same = idle refl in (
        backlogs,
        goes-on plan backlogs backlogs stations stations' 0 n capacity count empty
            (subst (StationsStand (nodes_view meaning) (nodes_stand meaning stands_after state) (world_of false plan) 0) (sym (same-view stations stations' backlogs same)) n.stands)
            (subst (λ (ns : Channels S T). PartsKeepPlan state plan ns.parts.items) (sym same.nodes) n.keeps),
        record { enabled = enabled; makes = λ yes. absurd (both_ways false refl yes); rests = λ _. record { nodes = same.nodes; stations = ap (map waits_of) same.stations; backlogs = refl; work = same.work } },
      )

  -- ---- a move of a head

  -- What it gives is worked off on the head's own executor.
  pub head-goes-on : (move : Move) (stations stations' : Stations (Channels S T)) (made : Bool) (home : ℕ) → ((plan : Plan) (backlogs : ℕ → List (Entry (Unit {0}))) → IsEnabled meaning stands_after is_spent state may_refuse plan.capacity move (stations_view stations backlogs) made)
      → (made ≡ true → (plan : Plan) (world : World) (x : ℕ) (backlogs : ℕ → List (Entry (Unit {0}))) → StationsStand (nodes_view meaning) (nodes_stand meaning stands_after state) world x (stations_view stations backlogs)
      → (after : ℕ → List (Entry (Unit {0}))) × StationsStand (nodes_view meaning) (nodes_stand meaning stands_after state) world home (stations_view stations' after)
      × MakesMove meaning stands_after is_spent state may_refuse plan.capacity move (stations_view stations backlogs) (stations_view stations' after))
      → (made ≡ false → stations' ≡ stations) → stations'.capacity ≡ stations.capacity → vec_len stations'.stations ≡ vec_len stations.stations → stations'.work.items ≡ [] → GoesOn move stations made stations'
  head-goes-on move stations stations' made home enabled runs idle capacity count empty = λ plan backlogs n.
      made-goes-on move stations stations' made home plan backlogs (enabled plan backlogs) (λ yes. runs yes plan (world_of false plan) 0 backlogs n.stands) (λ no. not-moved stations stations' (idle no)) capacity count empty n

  -- ---- a task

  -- a task is run where one is queued
  pub task-enabled : (c : StationsView (Channels S T)) (x : ℕ) (made : Bool) → (made ≡ true → (c' : StationsView (Channels S T)) × RunsTask (nodes_view meaning) (nodes_take meaning stands_after is_spent state) x c c')
      → (made ≡ false → queue_at c.stations x ≡ []) → made ≡ nat_lt 0 (length (queue_at c.stations x))
  task-enabled c x true runs none =
      let r = (runs refl).1 in
      let is : queue_at c.stations x ≡ r.envelope ∷ r.after.queue = ap (λ (o : Option StationView). option_map_or (λ (e : StationView). e.queue) o []) r.was ∙ r.front in
      let some : length (queue_at c.stations x) ≡ suc (length r.after.queue) = ap length is in
      sym (lt-ltb 0 (length (queue_at c.stations x)) (omega (arith, some)))
  task-enabled c x false runs none = sym (ap (λ (q : List Envelope). nat_lt 0 (length q)) (none refl))

  -- ---- a hand-over

  -- the oldest item is handed over, where one can be
  pub hand-goes-on : (stations stations' : Stations (Channels S T)) (made : Bool) (x : ℕ) (plan : Plan) (backlogs : ℕ → List (Entry (Unit {0})))
      → (made ≡ true → (after : ℕ → List (Entry (Unit {0}))) × StationsStand (nodes_view meaning) (nodes_stand meaning stands_after state) (world_of false plan) 0 (stations_view stations' after)
      × ((i : ℕ) × (oldest stations.capacity (stations_view stations backlogs) x ≡ Some i) × HandsOver x i (stations_view stations backlogs) (stations_view stations' after)))
      → (made ≡ false → oldest stations.capacity (stations_view stations backlogs) x ≡ None)
      → (made ≡ false → stations' ≡ stations) → stations'.capacity ≡ stations.capacity → vec_len stations'.stations ≡ vec_len stations.stations
      → NetStands meaning stands_after state plan backlogs stations
      → (after : ℕ → List (Entry (Unit {0}))) × NetStands meaning stands_after state plan after stations'
      × LeadsTo meaning stands_after is_spent state may_refuse plan.capacity (Hand x) (stations_view stations backlogs) made (stations_view stations' after)
  hand-goes-on stations stations' true x plan backlogs hands none idle capacity count n =
      let h = hands refl in
      let at = subst (λ (k : ℕ). oldest k (stations_view stations backlogs) x ≡ Some h.2.0) n.capacity h.2.1 in
      made-goes-on (Hand x) stations stations' true 0 plan backlogs (sym (ap (λ (o : Option ℕ). is_some o) at))
      (λ _. (h.0, h.1, record { at = h.2.0; is = at; hands = h.2.2 })) (λ no. absurd (both_ways true no refl)) capacity count (ap (λ (w : OutputsView). w.items) h.2.2.work ∙ n.rests) n
  hand-goes-on stations stations' false x plan backlogs hands none idle capacity count n =
      let same = idle refl in
      made-goes-on (Hand x) stations stations' false 0 plan backlogs (sym (ap (λ (o : Option ℕ). is_some o) (subst (λ (k : ℕ). oldest k (stations_view stations backlogs) x ≡ None) n.capacity (none refl))))
      (λ yes. absurd (both_ways false refl yes)) (λ _. not-moved stations stations' same) capacity count (ap (λ (k : Stations (Channels S T)). k.work.items) same ∙ n.rests) n

  -- a hand-over for which a queue is to grow is enabled
  pub hand-wanted : (stations : Stations (Channels S T)) (x : ℕ) (plan : Plan) (backlogs : ℕ → List (Entry (Unit {0}))) → ((i : ℕ) × (oldest stations.capacity (stations_view stations backlogs) x ≡ Some i))
      → NetStands meaning stands_after state plan backlogs stations → IsEnabled meaning stands_after is_spent state may_refuse plan.capacity (Hand x) (stations_view stations backlogs) true
  hand-wanted stations x plan backlogs found n = sym (ap (λ (o : Option ℕ). is_some o) (subst (λ (k : ℕ). oldest k (stations_view stations backlogs) x ≡ Some found.0) n.capacity found.1))

  -- where a queue could not grow, it stands as it stood
  pub room-goes-on : (stations stations' : Stations (Channels S T)) (plan : Plan) (backlogs : ℕ → List (Entry (Unit {0}))) → IsUnmovedButRoom stations stations'
      → StationsStand (nodes_view meaning) (nodes_stand meaning stands_after state) (world_of false plan) 0 (stations_view stations' backlogs) → stations'.capacity ≡ stations.capacity → vec_len stations'.stations ≡ vec_len stations.stations
      → NetStands meaning stands_after state plan backlogs stations → NetStands meaning stands_after state plan backlogs stations'
  room-goes-on stations stations' plan backlogs same stands capacity count n = goes-on plan backlogs backlogs stations stations' 0 n capacity count (ap (λ (w : OutputsView). w.items) same.work ∙ n.rests) stands
      (subst (λ (ns : Channels S T). PartsKeepPlan state plan ns.parts.items) (sym same.nodes) n.keeps)

-- ---- whose the move is

module _ {S T : Type 0} (meaning : S → Meaning) (stands_after : S → List Event → Type 0) (state : T → TransportState) where
  -- a channel of the plan is there
  pub channel-there : (plan : Plan) (backlogs : ℕ → List (Entry (Unit {0}))) (stations : Stations (Channels S T)) (channel : ℕ) → NetStands meaning stands_after state plan backlogs stations
      → nat_lt channel (length plan.channels) ≡ true → channel < length stations.nodes.parts.items
  channel-there plan backlogs stations channel n there = subst (λ (k : ℕ). channel < k) (sym n.keeps.count) (ltb-true channel (length plan.channels) there)

  -- and so is an executor
  pub executor-there : (plan : Plan) (backlogs : ℕ → List (Entry (Unit {0}))) (stations : Stations (Channels S T)) (x : ℕ) → NetStands meaning stands_after state plan backlogs stations
      → nat_lt x plan.executors ≡ true → x < length stations.stations.items
  executor-there plan backlogs stations x n there = subst (λ (k : ℕ). x < k) (sym n.executors) (ltb-true x plan.executors there)

  -- that of a channel's head is
  home-there : (plan : Plan) (backlogs : ℕ → List (Entry (Unit {0}))) (stations : Stations (Channels S T)) (channel : ℕ) → NetStands meaning stands_after state plan backlogs stations
      → channel < length stations.nodes.parts.items → home_of stations.nodes.parts.items channel < length stations.stations.items
  home-there plan backlogs stations channel n there =
      let part = at-index stations.nodes.parts.items channel there in
      let p = at-index plan.channels channel (subst (λ (k : ℕ). channel < k) n.keeps.count there) in
      let keeps = n.keeps.each channel p.0 part.0 p.1 part.1 in
      let ruled = All-at (IsChannelPlan plan.executors) plan.channels channel p.0 n.ruled.channels p.1 in
      let hop : head_hop part.0 < length p.0.executors = subst (λ (k : ℕ). k < length p.0.executors) (sym keeps.head_at) (let h = ruled.hops in omega (arith, h)) in
      let placed = All-at (λ (x : ℕ). x < plan.executors) p.0.executors (head_hop part.0) (get_or p.0.executors (head_hop part.0) 0) ruled.placed (slice_get-get_or p.0.executors (head_hop part.0) 0 hop) in
      subst (λ (o : Option (ChannelPartView S T)). option_map_or (λ (q : ChannelPartView S T). executor_at q (head_hop q)) o 0 < length stations.stations.items) (sym part.1)
      (subst (λ (l : List ℕ). get_or l (head_hop part.0) 0 < length stations.stations.items) (sym keeps.executors) (subst (λ (k : ℕ). get_or p.0.executors (head_hop part.0) 0 < k) (sym n.executors) placed))

  -- and so it is where a move names the channel
  pub head-home : (stations seen : Stations (Channels S T)) → stations ≡ seen → (channel : ℕ)
      → ((plan : Plan) (backlogs : ℕ → List (Entry (Unit {0}))) → NetStands meaning stands_after state plan backlogs seen → nat_lt channel (length plan.channels) ≡ true)
      → (plan : Plan) × (backlogs : ℕ → List (Entry (Unit {0}))) × NetStands meaning stands_after state plan backlogs stations → home_of stations.nodes.parts.items channel < vec_len stations.stations
  head-home stations seen view channel named some =
      let named_here = named some.0 some.1 (subst (NetStands meaning stands_after state some.0 some.1) view some.2) in
      let home = home-there some.0 some.1 stations channel some.2 (channel-there some.0 some.1 stations channel some.2 named_here) in
      let size = stations.stations.ok.0 in omega (arith, home, size)
