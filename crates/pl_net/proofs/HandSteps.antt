-- The oldest item that can be handed over goes into the queue of its target.
use Rattle.std.proofs.Common.{◌≡◌, ◌≢◌, ℕ, suc, ◌+◌, ◌<◌, ◌≤◌, Bool, true, false, ◌==◌, ◌&&◌, cond, List, [], ◌∷◌, ◌++◌, length, take, drop, get_or, slice_get, Some, refl, ap, sym, subst, ◌∙◌, ⊎_elim, arith, append-nil}
use Rattle.std.specs.List.{All, filter, position, remove}
use Rattle.std.proofs.lemmas.Bool.{and_parts, and_from, cond-true, cond-false, cases_Bool, both_ways, eqb-true, eq-eqb, ne_eqb, cases_eq}
use Rattle.std.proofs.lemmas.List.Elements.{All-get_or, All-append, All-take, All-drop}
use Rattle.std.proofs.lemmas.Option.{same_Some, get_or_from_slice_get}
use Rattle.pl_event.specs.declared.envelopes.Envelope.{Envelope}
use Rattle.pl_event.specs.declared.envelopes.Lane.{Lane}
use Rattle.pl_event.specs.Hops.{same_lane}
use Rattle.pl_event.specs.Worlds.{World}
use Rattle.pl_event.proofs.Lists.{All-at, cons-none, in-front}
use Rattle.pl_event.proofs.SameLanes.{same_lane-equal, same_lane-self}
use Rattle.pl_context.specs.Stops.{has_stopped, no_stops, HasPlaces, StopsView}
use Rattle.pl_context.specs.OutputsViews.{OutputsView}
use Rattle.pl_context.specs.WaitingViews.{Entry, Holds, Takes, is_for, stops_for}
use Rattle.pl_context.proofs.Firsts.{IsFirst, position-first, find-filter, find-first, filter-remove_first, filter-remove_other}
use Rattle.pl_flow.specs.Flows.{point, on}
use Rattle.pl_flow.proofs.FlowLemmas.{on-append, on-own, on-other}
use Rattle.pl_net.specs.NodesViews.{NodesView, written_by}
use Rattle.pl_net.specs.Nets.{StationView, queue_at, stops_at, envelopes, LaneStands, NetRuns, AreFew, IsTakenOut}
use Rattle.pl_net.proofs.LaneSteps.{lane-handed}
use Rattle.pl_net.proofs.NetSteps.{waits-still}
use Rattle.pl_net.proofs.OneExecutor.{Replaces, on-executor, queue-here, queue-was, queue-there}

All-remove : {X : Type 0} (P : X → Type 0) (xs : List X) (i : ℕ) → All P xs → All P (remove xs i)
All-remove P xs i all = All-append P (take i xs) (drop (suc i) xs) (All-take P i xs all) (All-drop P (suc i) xs all)

-- ---- one lane of a backlog

abbrev is_of : Lane → Entry (Unit {0}) → Bool
is_of l entry = same_lane l entry.envelope.lane

on-entries : (l : Lane) (entries : List (Entry (Unit {0}))) → on l (envelopes entries) ≡ envelopes (filter (is_of l) entries)
on-entries l [] = refl
on-entries l (z ∷ zs) = ⊎_elim
    (λ (t : same_lane l z.envelope.lane ≡ true). on-own l z.envelope (envelopes zs) t ∙ ap (λ ys. z.envelope ∷ ys) (on-entries l zs) ∙ ap envelopes (sym (cond-true (is_of l z) (z ∷ filter (is_of l) zs) (filter (is_of l) zs) t)))
    (λ (f : same_lane l z.envelope.lane ≡ false). on-other l z.envelope (envelopes zs) f ∙ on-entries l zs ∙ ap envelopes (sym (cond-false (is_of l z) (z ∷ filter (is_of l) zs) (filter (is_of l) zs) f)))
    (cases_Bool (same_lane l z.envelope.lane))

module _ (target : Lane → ℕ) (entries : List (Entry (Unit {0}))) (all : All (λ (z : Entry (Unit {0})). z.target ≡ target z.envelope.lane) entries) (t i : ℕ) (entry : Entry (Unit {0}))
    (found : position (is_for t) entries ≡ Some i) (at : slice_get entries i ≡ Some entry) where
  first : IsFirst (is_for t) entries i
  first = position-first (is_for t) entries i found

  pub entry-target : target entry.envelope.lane ≡ t
  entry-target =
      sym (All-at (λ (z : Entry (Unit {0})). z.target ≡ target z.envelope.lane) entries i entry all at)
      ∙ eqb-true entry.target t (ap (λ (z : Entry (Unit {0})). is_for t z) (sym (get_or_from_slice_get entries i entry entry at)) ∙ first.passes entry)

  -- those before it are of other lanes
  lane-first : IsFirst (is_of entry.envelope.lane) entries i
  lane-first = record {
    within = first.within;
    passes = λ d. ap (is_of entry.envelope.lane) (get_or_from_slice_get entries i entry d at) ∙ same_lane-self entry.envelope.lane;
    before = λ k d below. ⊎_elim
        (λ (s : is_of entry.envelope.lane (get_or entries k d) ≡ true).
        let m = same_lane-equal entry.envelope.lane (get_or entries k d).envelope.lane s in
        let own = All-get_or (λ (z : Entry (Unit {0})). z.target ≡ target z.envelope.lane) entries k d (let w = first.within in omega (arith, below, w)) all in
        absurd (both_ways (is_for t (get_or entries k d)) (first.before k d below) (eq-eqb (get_or entries k d).target t (own ∙ ap target (sym m) ∙ entry-target))))
        (λ (f : is_of entry.envelope.lane (get_or entries k d) ≡ false). f)
        (cases_Bool (is_of entry.envelope.lane (get_or entries k d)));
  }

  pub waits-own : on entry.envelope.lane (envelopes entries) ≡ entry.envelope ∷ on entry.envelope.lane (envelopes (remove entries i))
  waits-own =
      on-entries entry.envelope.lane entries
      ∙ ap envelopes (in-front (filter (is_of entry.envelope.lane) entries) (filter (is_of entry.envelope.lane) (remove entries i)) entry
      (sym (find-filter (is_of entry.envelope.lane) entries) ∙ find-first (is_of entry.envelope.lane) entries i lane-first ∙ at)
      (filter-remove_first (is_of entry.envelope.lane) entries i lane-first))
      ∙ ap (λ zs. entry.envelope ∷ zs) (sym (on-entries entry.envelope.lane (remove entries i)))

  pub waits-others : (l : Lane) → same_lane l entry.envelope.lane ≡ false → on l (envelopes (remove entries i)) ≡ on l (envelopes entries)
  waits-others l f =
      on-entries l (remove entries i)
      ∙ ap envelopes (filter-remove_other (is_of l) entries i first.within (λ d. ap (is_of l) (get_or_from_slice_get entries i entry d at) ∙ f))
      ∙ sym (on-entries l entries)

-- ---- the hand-over

module _ (world : World) (v : NodesView) (x : ℕ) (es : List StationView) (backlogs : ℕ → List (Entry (Unit {0}))) (work : OutputsView) (runs : NetRuns world v x es backlogs work)
    (o t : ℕ) (es2 es3 : List StationView) (a a' b b' : StationView) (r : Replaces es es2 o a a') (s : Replaces es2 es3 t b b') (e : Envelope) (out : IsTakenOut a t (Some e) a')
    (queue : b'.queue ≡ b.queue ++ e ∷ []) (same : b'.waiting ≡ b.waiting) where
  abbrev takes : Takes a.waiting (backlogs o) t (Some (e, tt)) a'.waiting
  takes = out.takes (backlogs o) (runs.holds o a r.was)

  abbrev pub i : ℕ
  i = takes.taken.0

  abbrev entry : Entry (Unit {0})
  entry = record { target = t; envelope = e; token = tt }

  -- the backlogs then
  abbrev pub left : ℕ → List (Entry (Unit {0}))
  left y = cond (y == o) (remove (backlogs o) i) (backlogs y)

  left-here : left o ≡ remove (backlogs o) i
  left-here = cond-true (o == o) _ _ (eq-eqb o o refl)

  left-there : (y : ℕ) → y ≢ o → left y ≡ backlogs y
  left-there y other = cond-false (y == o) _ _ (ne_eqb y o other)

  own-waits : on e.lane (envelopes (backlogs o)) ≡ e ∷ on e.lane (envelopes (left o))
  own-waits = waits-own v.lanes.target (backlogs o) (runs.entries o) t i entry takes.taken.1 takes.taken.2 ∙ ap (λ zs. e ∷ on e.lane (envelopes zs)) (sym left-here)

  others-wait : (y : ℕ) (l : Lane) → same_lane l e.lane ≡ false → on l (envelopes (left y)) ≡ on l (envelopes (backlogs y))
  others-wait y l f = ⊎_elim
      (λ (k : y ≡ o).
      ap (λ n. on l (envelopes (left n))) k ∙ ap (λ zs. on l (envelopes zs)) left-here ∙ waits-others v.lanes.target (backlogs o) (runs.entries o) t i entry takes.taken.1 takes.taken.2 l f
      ∙ sym (ap (λ n. on l (envelopes (backlogs n))) k))
      (λ (k : y ≡ o → ⊥). ap (λ zs. on l (envelopes zs)) (left-there y k))
      (cases_eq y o)

  is-target : v.lanes.target e.lane ≡ t
  is-target = entry-target v.lanes.target (backlogs o) (runs.entries o) t i entry takes.taken.1 takes.taken.2

  here : written_by v o e.lane ≡ true
  here = ⊎_elim (λ c. c) (λ f. absurd (cons-none e (on e.lane (envelopes (left o))) (sym own-waits ∙ runs.waits o e.lane f))) (cases_Bool (written_by v o e.lane))

  written : v.lanes.written e.lane ≡ true
  written = (and_parts (v.lanes.written e.lane) (v.origin e.lane == o) here).0

  origin : v.origin e.lane ≡ o
  origin = eqb-true (v.origin e.lane) o ((and_parts (v.lanes.written e.lane) (v.origin e.lane == o) here).1)

  queues-2 : (y : ℕ) → queue_at es2 y ≡ queue_at es y
  queues-2 y = on-executor es es2 o a a' r (λ (z : StationView). z.queue) [] out.queue y

  pub queue-own : queue_at es3 t ≡ queue_at es t ++ e ∷ []
  queue-own = queue-here es2 es3 t b b' s ∙ queue ∙ ap (λ zs. zs ++ e ∷ []) (sym (queue-was es2 es3 t b b' s) ∙ queues-2 t)

  pub queue-other : (y : ℕ) → y ≢ t → queue_at es3 y ≡ queue_at es y
  queue-other y k = queue-there es2 es3 t b b' s y k ∙ queues-2 y

  on-others : (y : ℕ) (l : Lane) → same_lane l e.lane ≡ false → on l (queue_at es3 y) ≡ on l (queue_at es y)
  on-others y l f = ⊎_elim
      (λ (k : y ≡ t).
      ap (λ n. on l (queue_at es3 n)) k ∙ ap (on l) queue-own ∙ on-append l (queue_at es t) (e ∷ []) ∙ ap (λ zs. on l (queue_at es t) ++ zs) (on-other l e [] f) ∙ append-nil (on l (queue_at es t))
      ∙ sym (ap (λ n. on l (queue_at es n)) k))
      (λ (k : y ≡ t → ⊥). ap (on l) (queue-other y k))
      (cases_eq y t)

  pub stops-same : (p q : ℕ) → stops_at es3 p q ≡ stops_at es p q
  stops-same p q =
      on-executor es2 es3 t b b' s (λ (w : StationView). stops_for w.waiting q) (no_stops 0) (ap (λ w. stops_for w q) same) p
      ∙ on-executor es es2 o a a' r (λ (w : StationView). stops_for w.waiting q) (no_stops 0) (takes.stopped q) p

  abbrev over : Bool
  over = (runs.lanes e.lane written).0

  abbrev cut : Bool
  cut = has_stopped (stops_at es o t) e.lane

  handed-here : LaneStands world (point (v.lanes.taken e.lane) over) (on e.lane (queue_at es3 (v.lanes.target e.lane))) (on e.lane (envelopes (left (v.origin e.lane)))) (has_stopped (stops_at es3 (v.origin e.lane) (v.lanes.target e.lane)) e.lane)
      (has_stopped work.stopped e.lane) (on e.lane work.items) (v.lanes.came e.lane)
  handed-here =
      subst (λ (z : List Envelope × ℕ × ℕ × StopsView). LaneStands world (point (v.lanes.taken e.lane) over) z.0 (on e.lane (envelopes (left z.1))) (has_stopped z.3 e.lane) (has_stopped work.stopped e.lane) (on e.lane work.items) (v.lanes.came e.lane))
      (λ j. (grown j, sym origin j, sym is-target j, sym (ap (λ (k : ℕ × ℕ). stops_at es3 k.0 k.1) (λ m. (origin m, is-target m)) ∙ stops-same o t) j))
      (lane-handed world cut (has_stopped work.stopped e.lane) (point (v.lanes.taken e.lane) over) (v.lanes.came e.lane) e (on e.lane (queue_at es t)) (on e.lane (envelopes (left o))) (on e.lane work.items)
      (subst (λ (z : List Envelope × List Envelope × StopsView). LaneStands world (point (v.lanes.taken e.lane) over) z.0 z.1 (has_stopped z.2 e.lane) (has_stopped work.stopped e.lane) (on e.lane work.items) (v.lanes.came e.lane))
      (λ j. (on e.lane (queue_at es (is-target j)), (ap (λ k. on e.lane (envelopes (backlogs k))) origin ∙ own-waits) j, stops_at es (origin j) (is-target j))) (runs.lanes e.lane written).1))
    where
      grown : on e.lane (queue_at es t) ++ e ∷ [] ≡ on e.lane (queue_at es3 (v.lanes.target e.lane))
      grown = sym (ap (λ k. on e.lane (queue_at es3 k)) is-target ∙ ap (on e.lane) queue-own ∙ on-append e.lane (queue_at es t) (e ∷ []) ∙ ap (λ zs. on e.lane (queue_at es t) ++ zs) (on-own e.lane e [] (same_lane-self e.lane)))

  count : length es3 ≡ length es
  count = s.count ∙ r.count

  -- what holds of the executors one by one
  held-2 : (y : ℕ) (c : StationView) → slice_get es2 y ≡ Some c → Holds c.waiting (left y) × (length c.waiting.targets ≡ length es)
  held-2 y c at = ⊎_elim
      (λ (k : y ≡ o).
      let c-is : a' ≡ c = same_Some a' c (sym r.is ∙ ap (slice_get es2) (sym k) ∙ at) in (
        subst (λ (z : StationView × List (Entry (Unit {0}))). Holds z.0.waiting z.1) (λ j. (c-is j, sym (ap left k ∙ left-here) j)) takes.taken.3,
        ap (λ (z : StationView). length z.waiting.targets) (sym c-is) ∙ takes.targets ∙ runs.targets o a r.was,
      ))
      (λ (k : y ≡ o → ⊥). (
        subst (λ (zs : List (Entry (Unit {0}))). Holds c.waiting zs) (sym (left-there y k)) (runs.holds y c (sym (r.others y k) ∙ at)),
        runs.targets y c (sym (r.others y k) ∙ at),
      ))
      (cases_eq y o)

  held-3 : (y : ℕ) (c : StationView) → slice_get es3 y ≡ Some c → Holds c.waiting (left y) × (length c.waiting.targets ≡ length es)
  held-3 y c at = ⊎_elim
      (λ (k : y ≡ t).
      let c-is : b' ≡ c = same_Some b' c (sym s.is ∙ ap (slice_get es3) (sym k) ∙ at) in
      let h = held-2 t b s.was in
      let w : b.waiting ≡ c.waiting = sym same ∙ ap (λ (z : StationView). z.waiting) c-is in
      (subst (λ n. Holds c.waiting (left n)) (sym k) (subst (λ z. Holds z (left t)) w h.0), sym (ap (λ z. length z.targets) w) ∙ h.1))
      (λ (k : y ≡ t → ⊥). held-2 y c (sym (s.others y k) ∙ at))
      (cases_eq y t)

  pub hands : NetRuns world v x es3 left work
  hands = record {
    lanes = λ l w. ⊎_elim
        (λ (m : same_lane l e.lane ≡ true).
        subst (λ (k : Lane). (p : Bool) × LaneStands world (point (v.lanes.taken k) p) (on k (queue_at es3 (v.lanes.target k))) (on k (envelopes (left (v.origin k)))) (has_stopped (stops_at es3 (v.origin k) (v.lanes.target k)) k) (has_stopped work.stopped k) (on k work.items) (v.lanes.came k))
        (sym (same_lane-equal l e.lane m)) (over, handed-here))
        (λ (f : same_lane l e.lane ≡ false).
        let p = runs.lanes l w in (
          p.0,
          subst (λ (z : List Envelope × List Envelope × StopsView). LaneStands world (point (v.lanes.taken l) p.0) z.0 z.1 (has_stopped z.2 l) (has_stopped work.stopped l) (on l work.items) (v.lanes.came l))
              (λ j. (sym (on-others (v.lanes.target l) l f) j, sym (others-wait (v.origin l) l f) j, sym (stops-same (v.origin l) (v.lanes.target l)) j)) p.1,
        ))
        (cases_Bool (same_lane l e.lane));
    direct = λ l w k.
        let d = runs.direct l w k in ⊎_elim
        (λ (m : same_lane l e.lane ≡ true).
        let n = same_lane-equal l e.lane m in
        absurd (cons-none e (on e.lane (envelopes (left o))) (sym own-waits ∙ ap (λ (z : Lane × ℕ). on z.0 (envelopes (backlogs z.1))) (λ j. (sym n j, sym (ap v.origin n ∙ origin) j)) ∙ d.1)))
        (λ (f : same_lane l e.lane ≡ false). (on-others (v.lanes.target l) l f ∙ d.0, others-wait (v.origin l) l f ∙ d.1, ap (λ z. has_stopped z l) (stops-same (v.origin l) (v.lanes.target l)) ∙ d.2))
        (cases_Bool (same_lane l e.lane));
    listed = runs.listed;
    queued = λ y l n. ⊎_elim
        (λ (m : same_lane l e.lane ≡ true). ⊎_elim
        (λ (k : y ≡ t).
        absurd (both_ways (v.lanes.written l && (v.lanes.target l == y)) n (ap (λ z. v.lanes.written z && (v.lanes.target z == y)) (same_lane-equal l e.lane m) ∙ and_from (v.lanes.written e.lane) (v.lanes.target e.lane == y) written (eq-eqb (v.lanes.target e.lane) y (is-target ∙ sym k)))))
        (λ (k : y ≡ t → ⊥). ap (on l) (queue-other y k) ∙ runs.queued y l n)
        (cases_eq y t))
        (λ (f : same_lane l e.lane ≡ false). on-others y l f ∙ runs.queued y l n)
        (cases_Bool (same_lane l e.lane));
    waits = waits-still world v x es backlogs work runs o e.lane here left left-there others-wait;
    entries = λ y. ⊎_elim
        (λ (k : y ≡ o).
        subst (λ (zs : List (Entry (Unit {0}))). All (λ z. z.target ≡ v.lanes.target z.envelope.lane) zs) (sym (ap left k ∙ left-here)) (All-remove (λ (z : Entry (Unit {0})). z.target ≡ v.lanes.target z.envelope.lane) (backlogs o) i (runs.entries o)))
        (λ (k : y ≡ o → ⊥). subst (λ (zs : List (Entry (Unit {0}))). All (λ z. z.target ≡ v.lanes.target z.envelope.lane) zs) (sym (left-there y k)) (runs.entries y))
        (cases_eq y o);
    holds = λ y c at. (held-3 y c at).0;
    targets = λ y c at. (held-3 y c at).1 ∙ sym count;
    there = λ l w. subst (λ n. (v.origin l < n) × (v.lanes.target l < n)) (sym count) (runs.there l w);
    hops = runs.hops;
    placed = λ p q c d. subst (λ z. HasPlaces z (runs.hops p q)) (sym (stops-same p q)) (runs.placed p q (subst (λ n. p < n) count c) (subst (λ n. q < n) count d));
    among = runs.among;
  }

  pub hand-few : AreFew v es work → AreFew v es3 work
  hand-few f = record {
    added = λ y c at. ⊎_elim
        (λ (k : y ≡ t).
        let c-is : b' ≡ c = same_Some b' c (sym s.is ∙ ap (slice_get es3) (sym k) ∙ at) in
        subst (λ n. n + length work.items ≤ v.work_done) (ap (λ w. w.added) (sym same) ∙ ap (λ (z : StationView). z.waiting.added) c-is) (few-2 t b s.was))
        (λ (k : y ≡ t → ⊥). few-2 y c (sym (s.others y k) ∙ at))
        (cases_eq y t);
    few = f.few;
  }
    where
      few-2 : (y : ℕ) (c : StationView) → slice_get es2 y ≡ Some c → c.waiting.added + length work.items ≤ v.work_done
      few-2 y c at = ⊎_elim
          (λ (k : y ≡ o).
          let c-is : a' ≡ c = same_Some a' c (sym r.is ∙ ap (slice_get es2) (sym k) ∙ at) in
          subst (λ n. n + length work.items ≤ v.work_done) (sym out.added ∙ ap (λ (z : StationView). z.waiting.added) c-is) (f.added o a r.was))
          (λ (k : y ≡ o → ⊥). f.added y c (sym (r.others y k) ∙ at))
          (cases_eq y o)
