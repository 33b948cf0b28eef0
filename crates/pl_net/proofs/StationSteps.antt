-- Stations, step by step.
use Rattle.std.proofs.Common.{◌≡◌, ◌≢◌, ◌⊎◌, ℕ, ◌+◌, ◌<◌, ◌≤◌, ◌^◌, ◌==◌, Bool, true, false, List, [], ◌∷◌, ◌++◌, length, slice_get, Option, Some, None, refl, ap, sym, subst, ◌∙◌, arith}
use Rattle.std.proofs.lemmas.List.Elements.{All-nil}
use Rattle.std.proofs.lemmas.Bool.{cond-true, cond-false, eq-eqb, ne_eqb}
use Rattle.std.specs.List.{position}
use Rattle.std.specs.Option.{option_map_or}
use Rattle.pl_event.specs.declared.envelopes.Envelope.{Envelope}
use Rattle.pl_event.specs.declared.envelopes.Lane.{Lane}
use Rattle.pl_event.specs.Worlds.{World}
use Rattle.pl_context.specs.Stops.{HasPlaces, has_stopped}
use Rattle.pl_context.specs.OutputsViews.{OutputsView}
use Rattle.pl_context.specs.WaitingViews.{Entry, stops_for, is_for}
use Rattle.pl_flow.specs.Flows.{Point, point, on, IsGood}
use Rattle.pl_flow.specs.LanesViews.{LanesView}
use Rattle.pl_flow.specs.Makes.{Makes}
use Rattle.pl_flow.specs.declared.head_moves.HeadMove.{HeadMove}
use Rattle.pl_net.specs.NodesViews.{NodesView, written_by, NodesTake, NodesGive, NodesMake, HeadGives}
use Rattle.pl_net.specs.Nets.{queue_at, LaneStands, IsStart, no_backlogs, StationView, IsAdded, IsTakenOut, StationsView, StationsStand, IsCall, IsKeep, IsStep, WorksListOff, Gives, AbortsHead, HandsOver}
use Rattle.pl_net.proofs.OneExecutor.{Replaces}
use Rattle.pl_net.proofs.NetSteps.{nets-put, front-written, call-number, call-good, called}
use Rattle.pl_net.proofs.TaskSteps.{at-rest, task-written, task-target, task-number, task-good, tasked, task-few}
use Rattle.pl_net.proofs.HandSteps.{i, left, hands, hand-few, queue-own, queue-other, stops-same}
use Rattle.pl_net.proofs.KeepSteps.{keep-there, keep-placed, keep-counts, kept, keeps, keep-few}

module _ {N : Type 0} (view_of : N → NodesView) (stands : World → N → Type 0) (world : World) (x : ℕ) (c : StationsView N) (h : StationsStand view_of stands world x c)
    (e : Envelope) (mid : OutputsView) (front : c.work.items ≡ e ∷ mid.items) (stops : mid.stopped ≡ c.work.stopped) where
  abbrev v : NodesView
  v = view_of c.nodes

  pub step-written : v.lanes.written e.lane ≡ true
  step-written = front-written world v x c.stations c.backlogs c.work mid e h.runs front stops

  pub step-places : HasPlaces mid.stopped v.lanes.places
  step-places = subst (λ s. HasPlaces s v.lanes.places) (sym stops) h.places

  -- it takes the front of the list, whatever becomes of that
  pub step-is : (takes : N → Envelope → OutputsView → N → OutputsView → Type 0) {c' : StationsView N} → c.work.room ≤ mid.room → IsCall view_of takes x c e mid c' ⊎ IsKeep view_of takes x c e mid c' → IsStep view_of takes x c c'
  step-is takes room becomes = record { envelope = e; mid = mid; front = front; stopped = stops; room = room; becomes = becomes }

  -- ---- a direct call

  module _ (here : v.lanes.target e.lane ≡ x) where
    pub step-number : e.number ≡ v.lanes.taken e.lane
    step-number = call-number world v x c.stations c.backlogs c.work mid e h.runs front stops here

    pub step-good : IsGood world e
    step-good = call-good world v x c.stations c.backlogs c.work mid e h.runs front stops here

    pub call-stands : (n' : N) (after : OutputsView) → NodesTake v e mid (view_of n') after → stands world n' → NodesMake world v (v.lanes.target e.lane) mid (view_of n') after
        → StationsStand view_of stands world x (record { nodes = n'; stations = c.stations; backlogs = c.backlogs; work = after })
    call-stands n' after t hold makes = record {
      hold = hold;
      runs =
          nets-put (called world v x c.stations c.backlogs c.work mid e h.runs front stops here) t.puts t.taken
          (subst (λ k. Makes world (written_by v k) v.lanes.came (view_of n').lanes.came mid after) here makes);
      counts = record {
        added = λ y a at. let n = h.counts.added y a at in let m = t.more in let k = ap length front in omega (arith, n, m, k);
        few = t.puts.few;
      };
      places = subst (λ (u : LanesView). HasPlaces after.stopped u.places) (sym t.puts.routes) (t.puts.placed v.lanes.places (λ l m. m) step-places);
    }

  -- ---- it is kept for another executor

  module _ (away : v.lanes.target e.lane ≢ x) (es' : List StationView) (a a' : StationView) (r : Replaces c.stations es' x a a') where
    pub add-there : v.lanes.target e.lane < length a.waiting.targets
    add-there = keep-there world v x c.stations c.backlogs c.work mid e h.runs front stops a r.was

    pub add-placed : HasPlaces (stops_for a.waiting (v.lanes.target e.lane)) (e.lane ∷ [])
    add-placed = keep-placed world v x c.stations c.backlogs c.work mid e h.runs front stops a r.was

    pub add-few : a.waiting.added + 1 < 2 ^ 64
    add-few = keep-counts world v x c.stations c.backlogs c.work mid e h.runs front stops a r.was h.counts

    module _ (adds : IsAdded a (v.lanes.target e.lane) e a') where
      abbrev pub kept_by : ℕ → List (Entry (Unit {0}))
      kept_by = kept world v x c.stations c.backlogs c.work mid e h.runs front stops away es' a a' r adds

      pub keep-stands : StationsStand view_of stands world x (record { nodes = c.nodes; stations = es'; backlogs = kept_by; work = mid })
      keep-stands = record {
        hold = h.hold;
        runs = keeps world v x c.stations c.backlogs c.work mid e h.runs front stops away es' a a' r adds;
        counts = keep-few world v x c.stations c.backlogs c.work mid e h.runs front stops away es' a a' r adds h.counts;
        places = step-places;
      }

      pub keep-is : (takes : N → Envelope → OutputsView → N → OutputsView → Type 0) → IsKeep view_of takes x c e mid (record { nodes = c.nodes; stations = es'; backlogs = kept_by; work = mid })
      keep-is takes = record {
        away = away;
        nodes = refl;
        work = refl;
        before = a;
        after = a';
        added = adds;
        was = r.was;
        is = r.is;
        others = λ y other. (r.others y other, cond-false (y == x) _ _ (ne_eqb y x other));
        backlog = cond-true (x == x) _ _ (eq-eqb x x refl);
      }

-- ---- a task

-- The front of the queue of executor x is taken. Nothing is on the list before.
module _ {N : Type 0} (view_of : N → NodesView) (stands : World → N → Type 0) (world : World) (x : ℕ) (c : StationsView N) (h : StationsStand view_of stands world x c)
    (es' : List StationView) (a a' : StationView) (r : Replaces c.stations es' x a a') (e : Envelope) (front : a.queue ≡ e ∷ a'.queue) (same : a'.waiting ≡ a.waiting) where
  pub queued-written : (view_of c.nodes).lanes.written e.lane ≡ true
  queued-written = task-written world (view_of c.nodes) x c.stations c.backlogs c.work h.runs x es' a a' r e front same

  pub queued-number : e.number ≡ (view_of c.nodes).lanes.taken e.lane
  queued-number = task-number world (view_of c.nodes) x c.stations c.backlogs c.work h.runs x es' a a' r e front same

  pub queued-good : IsGood world e
  queued-good = task-good world (view_of c.nodes) x c.stations c.backlogs c.work h.runs x es' a a' r e front same

  pub task-stands : (n' : N) (after : OutputsView) → NodesTake (view_of c.nodes) e c.work (view_of n') after → stands world n' → NodesMake world (view_of c.nodes) ((view_of c.nodes).lanes.target e.lane) c.work (view_of n') after
      → StationsStand view_of stands world x (record { nodes = n'; stations = es'; backlogs = c.backlogs; work = after })
  task-stands n' after t hold makes = record {
    hold = hold;
    runs =
        nets-put (tasked world (view_of c.nodes) x c.stations c.backlogs c.work h.runs x es' a a' r e front same) t.puts t.taken
        (subst (λ k. Makes world (written_by (view_of c.nodes) k) (view_of c.nodes).lanes.came (view_of n').lanes.came c.work after)
        (task-target world (view_of c.nodes) x c.stations c.backlogs c.work h.runs x es' a a' r e front same) makes);
    counts =
        let f = task-few world (view_of c.nodes) x c.stations c.backlogs c.work h.runs x es' a a' r e front same h.counts in record {
          added = λ y b at. let n = f.added y b at in let m = t.more in omega (arith, n, m);
          few = t.puts.few;
        };
    places = subst (λ (u : LanesView). HasPlaces after.stopped u.places) (sym t.puts.routes) (t.puts.placed (view_of c.nodes).lanes.places (λ l m. m) h.places);
  }

-- ---- what a head gives

pub give-stands : {N : Type 0} (view_of : N → NodesView) (stands : World → N → Type 0) (world : World) (x : ℕ) (c : StationsView N) → StationsStand view_of stands world x c
    → (n' : N) (after : OutputsView) → NodesGive (view_of c.nodes) x c.work (view_of n') after → stands world n' → NodesMake world (view_of c.nodes) x c.work (view_of n') after
    → StationsStand view_of stands world x (record { nodes = n'; stations = c.stations; backlogs = c.backlogs; work = after })
give-stands view_of stands world x c h n' after t hold makes = record {
  hold = hold;
  runs = nets-put h.runs t.puts t.taken makes;
  counts = record {
    added = λ y a at. let n = h.counts.added y a at in let m = t.more in omega (arith, n, m);
    few = t.puts.few;
  };
  places = subst (λ (u : LanesView). HasPlaces after.stopped u.places) (sym t.puts.routes) (t.puts.placed (view_of c.nodes).lanes.places (λ l m. m) h.places);
}

-- between two moves any executor may be the next to run
pub rest-stands : {N : Type 0} (view_of : N → NodesView) (stands : World → N → Type 0) (world : World) (x y : ℕ) (c : StationsView N) → c.work.items ≡ [] → StationsStand view_of stands world x c → StationsStand view_of stands world y c
rest-stands view_of stands world x y c none h = record {
  hold = h.hold;
  runs = at-rest world (view_of c.nodes) x y c.stations c.backlogs c.work none h.runs;
  counts = h.counts;
  places = h.places;
}

-- the executor of its head works off what comes of that
module _ {N : Type 0} (view_of : N → NodesView) (stands : World → N → Type 0) (world : World) (x channel runs : ℕ) (c : StationsView N) (is : runs ≡ (view_of c.nodes).home channel) (none : c.work.items ≡ []) (h : StationsStand view_of stands world x c)
    (n' : N) (after : OutputsView) where
  abbrev home : ℕ
  home = (view_of c.nodes).home channel

  abbrev given_stations : StationsView N
  given_stations = record c { nodes = n'; work = after }

  pub given-stands : HeadGives view_of stands c.nodes channel c.work n' after → StationsStand view_of stands world runs given_stations
  given-stands gives =
      subst (λ y. StationsStand view_of stands world y given_stations) (sym is)
      (give-stands view_of stands world home c (rest-stands view_of stands world x home c none h) n' after gives.view (gives.stands world h.hold) (gives.makes world h.hold))

  pub given-settles : (takes : N → Envelope → OutputsView → N → OutputsView → Type 0) (moves : N → HeadMove → ℕ → OutputsView → N → OutputsView → Type 0) (by : HeadMove) → moves c.nodes by channel c.work n' after
      → (to : (ℕ → List (Entry (Unit {0}))) → StationsView N)
      → (backlogs : ℕ → List (Entry (Unit {0}))) × StationsStand view_of stands world runs (to backlogs) × WorksListOff view_of takes runs given_stations (to backlogs)
      → (backlogs : ℕ → List (Entry (Unit {0}))) × StationsStand view_of stands world home (to backlogs) × Gives view_of takes moves home by channel c (to backlogs)
  given-settles takes moves by moved to s = (
    s.0,
    subst (λ y. StationsStand view_of stands world y (to s.0)) is s.1,
    record { nodes = n'; work = after; moved = moved; settles = subst (λ y. WorksListOff view_of takes y given_stations (to s.0)) is s.2 },
  )

  pub abort-settles : (takes : N → Envelope → OutputsView → N → OutputsView → Type 0) (aborts : N → ℕ → OutputsView → N → OutputsView → Type 0) → aborts c.nodes channel c.work n' after
      → (to : (ℕ → List (Entry (Unit {0}))) → StationsView N)
      → (backlogs : ℕ → List (Entry (Unit {0}))) × StationsStand view_of stands world runs (to backlogs) × WorksListOff view_of takes runs given_stations (to backlogs)
      → (backlogs : ℕ → List (Entry (Unit {0}))) × StationsStand view_of stands world home (to backlogs) × AbortsHead view_of takes aborts home channel c (to backlogs)
  abort-settles takes aborts aborted to s = (
    s.0,
    subst (λ y. StationsStand view_of stands world y (to s.0)) is s.1,
    record { nodes = n'; work = after; aborted = aborted; settles = subst (λ y. WorksListOff view_of takes y given_stations (to s.0)) is s.2 },
  )

-- ---- a hand-over

-- The first entry for a target is taken out of a backlog, and its envelope goes to the end of that queue.
module _ {N : Type 0} (view_of : N → NodesView) (stands : World → N → Type 0) (world : World) (x : ℕ) (c : StationsView N) (h : StationsStand view_of stands world x c)
    (o t : ℕ) (es2 es3 : List StationView) (a a' b b' : StationView) (r : Replaces c.stations es2 o a a') (s : Replaces es2 es3 t b b') (e : Envelope) (out : IsTakenOut a t (Some e) a')
    (queue : b'.queue ≡ b.queue ++ e ∷ []) (same : b'.waiting ≡ b.waiting) where
  abbrev pub backlogs_left : ℕ → List (Entry (Unit {0}))
  backlogs_left = left world (view_of c.nodes) x c.stations c.backlogs c.work h.runs o t es2 es3 a a' b b' r s e out queue same

  abbrev pub handed_at : ℕ
  handed_at = i world (view_of c.nodes) x c.stations c.backlogs c.work h.runs o t es2 es3 a a' b b' r s e out queue same

  abbrev pub handed_stations : StationsView N
  handed_stations = record { nodes = c.nodes; stations = es3; backlogs = backlogs_left; work = c.work }

  pub hand-stands : StationsStand view_of stands world x handed_stations
  hand-stands = record {
    hold = h.hold;
    runs = hands world (view_of c.nodes) x c.stations c.backlogs c.work h.runs o t es2 es3 a a' b b' r s e out queue same;
    counts = hand-few world (view_of c.nodes) x c.stations c.backlogs c.work h.runs o t es2 es3 a a' b b' r s e out queue same h.counts;
    places = h.places;
  }

  pub hand-first : position (is_for t) (c.backlogs o) ≡ Some handed_at
  hand-first = (out.takes (c.backlogs o) (h.runs.holds o a r.was)).taken.1

  pub hand-is : HandsOver o handed_at c handed_stations
  hand-is = record {
    entry = record { target = t; envelope = e; token = tt };
    is = (out.takes (c.backlogs o) (h.runs.holds o a r.was)).taken.2;
    nodes = refl;
    work = refl;
    queue = queue-own world (view_of c.nodes) x c.stations c.backlogs c.work h.runs o t es2 es3 a a' b b' r s e out queue same;
    queues = queue-other world (view_of c.nodes) x c.stations c.backlogs c.work h.runs o t es2 es3 a a' b b' r s e out queue same;
    backlog = cond-true (o == o) _ _ (eq-eqb o o refl);
    backlogs = λ y other. cond-false (y == o) _ _ (ne_eqb y o other);
    stops = stops-same world (view_of c.nodes) x c.stations c.backlogs c.work h.runs o t es2 es3 a a' b b' r s e out queue same;
  }

-- ---- before any move

pub start-stands : {N : Type 0} (view_of : N → NodesView) (stands : World → N → Type 0) (world : World) (x : ℕ) (nodes : N) (stations : List StationView) (work : OutputsView) → stands world nodes → IsStart (view_of nodes) stations
    → work.items ≡ [] → HasPlaces work.stopped (view_of nodes).lanes.places → StationsStand view_of stands world x (record { nodes = nodes; stations = stations; backlogs = no_backlogs; work = work })
start-stands view_of stands world x nodes stations work hold s none places = record {
  hold = hold;
  runs = record {
    lanes = λ l w. (
      false,
      subst (λ (y : List Envelope × Bool × List Envelope × ℕ × Point). LaneStands world (point y.3 false) y.0 [] y.1 (has_stopped work.stopped l) y.2 y.4)
          (λ i. (sym (empty ((view_of nodes).lanes.target l) l) i, sym (s.unstopped ((view_of nodes).origin l) ((view_of nodes).lanes.target l) l) i, sym (ap (on l) none) i, sym (s.taken l w) i, sym (s.came l w) i))
          (record { between = tt; runs = record { flow = λ c. tt; up_to = λ c f. refl } }),
    );
    direct = λ l w o. (empty ((view_of nodes).lanes.target l) l, refl, s.unstopped ((view_of nodes).origin l) ((view_of nodes).lanes.target l) l);
    listed = λ l n. ap (on l) none;
    queued = λ y l n. empty y l;
    waits = λ y l n. refl;
    entries = λ y. All-nil (λ (z : Entry (Unit {0})). z.target ≡ (view_of nodes).lanes.target z.envelope.lane);
    holds = λ y e at. (s.queues y e at).1;
    targets = λ y e at. (s.queues y e at).3;
    there = s.there;
    hops = s.hops;
    placed = s.placed;
    among = s.among;
  };
  counts = record {
    added = λ y e at. let q = (s.queues y e at).2 in let n = ap length none in omega (arith, q, n);
    few = s.few;
  };
  places = places;
}
  where
    empty : (y : ℕ) (l : Lane) → on l (queue_at stations y) ≡ []
    empty y l = by (slice_get stations y) refl
      where
        by : (o : Option StationView) → slice_get stations y ≡ o → on l (queue_at stations y) ≡ []
        by None at = ap (λ o. on l (option_map_or (λ (e : StationView). e.queue) o [])) at
        by (Some e) at = ap (λ o. on l (option_map_or (λ (e : StationView). e.queue) o [])) at ∙ ap (on l) (s.queues y e at).0
