-- The oldest item that can be handed over, and a queue that gets memory for it.
use Rattle.std.proofs.Common.{◌≡◌, ℕ, ◌+◌, ◌<◌, ◌≤◌, Bool, true, false, ◌==◌, List, [], ◌∷◌, ◌++◌, length, map, set, get_or, slice_get, Option, Some, None, refl, ap, sym, subst, ◌∙◌, ⊎_elim, arith, inl, inr}
use Rattle.std.specs.List.{find, position, remove}
use Rattle.std.specs.Option.{option_map}
use Rattle.std.proofs.lemmas.Bool.{and_parts, cases_Bool, both_ways, eqb-true, eq-eqb, cases_eq}
use Rattle.std.proofs.lemmas.Option.{same_Some, none-some, get_or_from_slice_get, slice_get_cases}
use Rattle.std.proofs.Math.Seq.{map-set_same}
use Rattle.pl_event.specs.declared.envelopes.Envelope.{Envelope}
use Rattle.pl_event.specs.Worlds.{World}
use Rattle.pl_event.proofs.Lists.{All-at, cons-none}
use Rattle.pl_context.specs.Stops.{no_stops, has_stopped, HasPlaces, StopsView}
use Rattle.pl_context.specs.OutputsViews.{OutputsView}
use Rattle.pl_context.specs.WaitingViews.{Entry, Holds, is_for, stops_for}
use Rattle.pl_context.proofs.Firsts.{position-first, position-is, find-None-position, find-Some-position}
use Rattle.pl_flow.specs.Flows.{point, on}
use Rattle.pl_net.specs.NodesViews.{NodesView, written_by}
use Rattle.pl_net.specs.Nets.{StationView, queue_at, stops_at, envelopes, LaneStands, NetRuns, StationsView, StationsStand, HandsOver, has_room}
use Rattle.pl_net.specs.Stations.{waits_of}
use Rattle.pl_net.proofs.OneExecutor.{Replaces, on-executor}
use Rattle.pl_net.proofs.HandSteps.{waits-own}

-- ---- the first whose target is open is the first for that target

pub record IsOldest (opens : ℕ → Bool) (entries : List (Entry (Unit {0}))) (t : ℕ) : Type 0 where
  pub i : ℕ
  pub entry : Entry (Unit {0})
  pub open_at : position (λ (z : Entry (Unit {0})). opens z.target) entries ≡ Some i
  pub own_at : position (is_for t) entries ≡ Some i
  pub is : slice_get entries i ≡ Some entry
  pub target : entry.target ≡ t

pub oldest-found : (opens : ℕ → Bool) (entries : List (Entry (Unit {0}))) (t : ℕ) → Some t ≡ option_map (λ (z : Entry (Unit {0})). z.target) (find (λ z. opens z.target) entries) → IsOldest opens entries t
oldest-found opens entries t e = by (find (λ (z : Entry (Unit {0})). opens z.target) entries) refl
  where
    by : (o : Option (Entry (Unit {0}))) → find (λ (z : Entry (Unit {0})). opens z.target) entries ≡ o → IsOldest opens entries t
    by None none = absurd (none-some t (sym (e ∙ ap (option_map (λ (z : Entry (Unit {0})). z.target)) none)))
    by (Some z) some =
        let f = find-Some-position (λ (y : Entry (Unit {0})). opens y.target) entries z some in
        let first = position-first (λ (y : Entry (Unit {0})). opens y.target) entries f.0 f.1 in
        let same : z.target ≡ t = sym (same_Some t z.target (e ∙ ap (option_map (λ (y : Entry (Unit {0})). y.target)) some)) in
        let is-open : opens t ≡ true = ap opens (sym same) ∙ ap (λ (y : Entry (Unit {0})). opens y.target) (sym (get_or_from_slice_get entries f.0 z z f.2)) ∙ first.passes z in
        record {
          i = f.0;
          entry = z;
          open_at = f.1;
          own_at = position-is (is_for t) entries f.0 (record {
            within = first.within;
            passes = λ d. ap (is_for t) (get_or_from_slice_get entries f.0 z d f.2) ∙ eq-eqb z.target t same;
            before = λ k d below. ⊎_elim
                (λ (y : is_for t (get_or entries k d) ≡ true). absurd (both_ways (opens (get_or entries k d).target) (first.before k d below) (ap opens (eqb-true (get_or entries k d).target t y) ∙ is-open)))
                (λ (y : is_for t (get_or entries k d) ≡ false). y)
                (cases_Bool (is_for t (get_or entries k d)));
          });
          is = f.2;
          target = same;
        }

pub none-open : (opens : ℕ → Bool) (entries : List (Entry (Unit {0}))) → None ≡ option_map (λ (z : Entry (Unit {0})). z.target) (find (λ z. opens z.target) entries)
    → position (λ (z : Entry (Unit {0})). opens z.target) entries ≡ None
none-open opens entries e = by (find (λ (z : Entry (Unit {0})). opens z.target) entries) refl
  where
    by : (o : Option (Entry (Unit {0}))) → find (λ (z : Entry (Unit {0})). opens z.target) entries ≡ o → position (λ (z : Entry (Unit {0})). opens z.target) entries ≡ None
    by None none = find-None-position (λ (z : Entry (Unit {0})). opens z.target) entries none
    by (Some z) some = absurd (none-some z.target (e ∙ ap (option_map (λ (y : Entry (Unit {0})). y.target)) some))

-- an entry that waits is for an executor that is there
pub entry-there : (world : World) (v : NodesView) (x : ℕ) (es : List StationView) (backlogs : ℕ → List (Entry (Unit {0}))) (work : OutputsView) → NetRuns world v x es backlogs work
    → (y t i : ℕ) (entry : Entry (Unit {0})) → position (is_for t) (backlogs y) ≡ Some i → slice_get (backlogs y) i ≡ Some entry → entry.target ≡ t → t < length es
entry-there world v x es backlogs work runs y t i entry own at same =
    subst (λ k. k < length es) (sym (All-at (λ (z : Entry (Unit {0})). z.target ≡ v.lanes.target z.envelope.lane) (backlogs y) i entry (runs.entries y) at) ∙ same)
    (runs.there entry.envelope.lane (⊎_elim
    (λ (w : written_by v y entry.envelope.lane ≡ true). (and_parts (v.lanes.written entry.envelope.lane) (v.origin entry.envelope.lane == y) w).0)
    (λ (f : written_by v y entry.envelope.lane ≡ false).
    absurd (cons-none entry.envelope (on entry.envelope.lane (envelopes (remove (backlogs y) i))) (sym (waits-own v.lanes.target (backlogs y) (runs.entries y) t i entry own at) ∙ runs.waits y entry.envelope.lane f)))
    (cases_Bool (written_by v y entry.envelope.lane)))).1

-- ---- a queue that gets memory

module _ {N : Type 0} (view_of : N → NodesView) (stands : World → N → Type 0) (world : World) (x : ℕ) (c : StationsView N) (h : StationsStand view_of stands world x c)
    (t : ℕ) (es' : List StationView) (b b' : StationView) (r : Replaces c.stations es' t b b') (queue : b'.queue ≡ b.queue) (waiting : b'.waiting ≡ b.waiting) where
  abbrev pub roomy : StationsView N
  roomy = record { nodes = c.nodes; stations = es'; backlogs = c.backlogs; work = c.work }

  pub queues-same : (y : ℕ) → queue_at es' y ≡ queue_at c.stations y
  queues-same y = on-executor c.stations es' t b b' r (λ (z : StationView). z.queue) [] queue y

  pub stops-alike : (y z : ℕ) → stops_at es' y z ≡ stops_at c.stations y z
  stops-alike y z = on-executor c.stations es' t b b' r (λ (w : StationView). stops_for w.waiting z) (no_stops 0) (ap (λ w. stops_for w z) waiting) y

  held : (y : ℕ) (e : StationView) → slice_get es' y ≡ Some e → (e' : StationView) × (slice_get c.stations y ≡ Some e') × (e.waiting ≡ e'.waiting)
  held y e at = ⊎_elim
      (λ (s : y ≡ t).
      let is : b' ≡ e = same_Some b' e (sym r.is ∙ ap (slice_get es') (sym s) ∙ at) in
      (b, ap (slice_get c.stations) s ∙ r.was, ap (λ (z : StationView). z.waiting) (sym is) ∙ waiting))
      (λ (s : y ≡ t → ⊥). (e, sym (r.others y s) ∙ at, refl))
      (cases_eq y t)

  pub room-stands : StationsStand view_of stands world x roomy
  room-stands = record {
    hold = h.hold;
    runs =
        let runs = h.runs in record {
          lanes = λ l w.
              let s = runs.lanes l w in (
                s.0,
                subst (λ (y : List Envelope × StopsView). LaneStands world (point ((view_of c.nodes).lanes.taken l) s.0) y.0 (on l (envelopes (c.backlogs ((view_of c.nodes).origin l)))) (has_stopped y.1 l) (has_stopped c.work.stopped l) (on l c.work.items) ((view_of c.nodes).lanes.came l))
                    (λ i. (on l (sym (queues-same ((view_of c.nodes).lanes.target l)) i), sym (stops-alike ((view_of c.nodes).origin l) ((view_of c.nodes).lanes.target l)) i)) s.1,
              );
          direct = λ l w o.
              let d = runs.direct l w o in
              (ap (on l) (queues-same ((view_of c.nodes).lanes.target l)) ∙ d.0, d.1, ap (λ s. has_stopped s l) (stops-alike ((view_of c.nodes).origin l) ((view_of c.nodes).lanes.target l)) ∙ d.2);
          listed = runs.listed;
          queued = λ y l n. ap (on l) (queues-same y) ∙ runs.queued y l n;
          waits = runs.waits;
          entries = runs.entries;
          holds = λ y e at. let e' = held y e at in subst (λ w. Holds w (c.backlogs y)) (sym e'.2) (runs.holds y e'.0 e'.1);
          targets = λ y e at. let e' = held y e at in ap (λ w. length w.targets) e'.2 ∙ runs.targets y e'.0 e'.1 ∙ sym r.count;
          there = λ l w. subst (λ n. ((view_of c.nodes).origin l < n) × ((view_of c.nodes).lanes.target l < n)) (sym r.count) (runs.there l w);
          hops = runs.hops;
          placed = λ y z p q. subst (λ s. HasPlaces s (runs.hops y z)) (sym (stops-alike y z)) (runs.placed y z (subst (λ n. y < n) r.count p) (subst (λ n. z < n) r.count q));
          among = runs.among;
        };
    counts = record {
      added = λ y e at. let e' = held y e at in subst (λ n. n + length c.work.items ≤ (view_of c.nodes).work_done) (ap (λ w. w.added) (sym e'.2)) (h.counts.added y e'.0 e'.1);
      few = h.counts.few;
    };
    places = h.places;
  }

  -- what is handed over then is handed over
  pub room-hands : (o i : ℕ) (c' : StationsView N) → HandsOver o i roomy c' → HandsOver o i c c'
  room-hands o i c' m = record {
    entry = m.entry;
    is = m.is;
    nodes = m.nodes;
    work = m.work;
    queue = m.queue ∙ ap (λ zs. zs ++ m.entry.envelope ∷ []) (queues-same m.entry.target);
    queues = λ y other. m.queues y other ∙ queues-same y;
    backlog = m.backlog;
    backlogs = m.backlogs;
    stops = λ y z. m.stops y z ∙ stops-alike y z;
  }

-- what waits is the same, whatever memory a queue has
pub same-waits : (es : List StationView) (t : ℕ) (b b' : StationView) → b ≡ get_or es t b → waits_of b' ≡ waits_of b → map waits_of (set es t b') ≡ map waits_of es
same-waits es t b b' at same = map-set_same waits_of es t b' b (same ∙ ap waits_of at)

-- ---- what is found

abbrev Says : List StationView → ℕ → ℕ → Option ℕ → Type 0
Says es capacity o answer = (e : StationView) (entries : List (Entry (Unit {0}))) → slice_get es o ≡ Some e → Holds e.waiting entries
    → answer ≡ option_map (λ (z : Entry (Unit {0})). z.target) (find (λ z. has_room es capacity z.target) entries)

module _ {N : Type 0} (view_of : N → NodesView) (stands : World → N → Type 0) (world : World) (x : ℕ) (c : StationsView N) (h : StationsStand view_of stands world x c)
    (o capacity : ℕ) (within : o < length c.stations) (es : List StationView) (same : es ≡ c.stations) (answer : Option ℕ) (says : Says es capacity o answer) where
  pub found : answer ≡ option_map (λ (z : Entry (Unit {0})). z.target) (find (λ z. has_room c.stations capacity z.target) (c.backlogs o))
  found =
      let says' = subst (λ zs. Says zs capacity o answer) same says in
      elim (slice_get_cases c.stations o).1 [
        | inl here ↦ says' here.0 (c.backlogs o) here.2 (h.runs.holds o here.0 here.2)
        | inr past ↦ absurd (omega (arith, past.0, within))
      ]

-- and what is found is the target of the oldest that can go
module _ {N : Type 0} (view_of : N → NodesView) (stands : World → N → Type 0) (world : World) (x : ℕ) (c : StationsView N) (h : StationsStand view_of stands world x c)
    (o capacity : ℕ) (answer : Option ℕ) (is-found : answer ≡ option_map (λ (z : Entry (Unit {0})). z.target) (find (λ z. has_room c.stations capacity z.target) (c.backlogs o))) where
  pub hand-oldest : (t : ℕ) → answer ≡ Some t → IsOldest (has_room c.stations capacity) (c.backlogs o) t
  hand-oldest t is = oldest-found (has_room c.stations capacity) (c.backlogs o) t (sym is ∙ is-found)

  pub hand-there : (t : ℕ) → answer ≡ Some t → t < length c.stations
  hand-there t is = let p = hand-oldest t is in entry-there world (view_of c.nodes) x c.stations c.backlogs c.work h.runs o t p.i p.entry p.own_at p.is p.target
