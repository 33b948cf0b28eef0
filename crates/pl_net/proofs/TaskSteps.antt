-- The front of a queue is taken.
use Rattle.std.proofs.Common.{◌≡◌, ℕ, ◌+◌, ◌<◌, ◌≤◌, Bool, true, false, ◌==◌, ◌&&◌, List, [], ◌∷◌, length, slice_get, ap, sym, subst, ◌∙◌, ⊎_elim}
use Rattle.std.proofs.lemmas.Bool.{and_parts, cond-true, cond-false, cases_Bool, both_ways, eqb-true, cases_eq}
use Rattle.std.proofs.lemmas.Option.{same_Some}
use Rattle.pl_event.specs.declared.envelopes.Envelope.{Envelope}
use Rattle.pl_event.specs.declared.envelopes.Lane.{Lane}
use Rattle.pl_event.specs.Hops.{same_lane}
use Rattle.pl_event.specs.Worlds.{World, closes}
use Rattle.pl_event.proofs.Lists.{cons-none}
use Rattle.pl_event.proofs.SameLanes.{same_lane-equal, same_lane-self}
use Rattle.pl_context.specs.Stops.{has_stopped, no_stops, HasPlaces, StopsView}
use Rattle.pl_context.specs.OutputsViews.{OutputsView}
use Rattle.pl_context.specs.WaitingViews.{Entry, Holds, stops_for}
use Rattle.pl_flow.specs.Flows.{point, on, IsGood}
use Rattle.pl_flow.specs.LanesViews.{taken_with}
use Rattle.pl_flow.proofs.FlowLemmas.{on-own, on-other}
use Rattle.pl_net.specs.NodesViews.{NodesView}
use Rattle.pl_net.specs.Nets.{StationView, queue_at, stops_at, envelopes, LaneStands, NetRuns, AreFew}
use Rattle.pl_net.proofs.LaneSteps.{lane-task}
use Rattle.pl_net.proofs.OneExecutor.{Replaces, on-executor, queue-here, queue-was, queue-there}
use Rattle.pl_net.proofs.NetSteps.{relisted}

-- Between two moves any executor may be the next to run.
pub at-rest : (world : World) (v : NodesView) (x y : ℕ) (es : List StationView) (backlogs : ℕ → List (Entry (Unit {0}))) (work : OutputsView) → work.items ≡ [] → NetRuns world v x es backlogs work → NetRuns world v y es backlogs work
at-rest world v x y es backlogs work none runs = relisted world v x es backlogs v v.lanes.taken v.lanes.came y work work runs runs.lanes (λ l n. ap (on l) none)

module _ (world : World) (v : NodesView) (x : ℕ) (es : List StationView) (backlogs : ℕ → List (Entry (Unit {0}))) (work : OutputsView) (runs : NetRuns world v x es backlogs work)
    (y : ℕ) (es' : List StationView) (a a' : StationView) (r : Replaces es es' y a a') (e : Envelope) (front : a.queue ≡ e ∷ a'.queue) (same : a'.waiting ≡ a.waiting) where
  own-queue : queue_at es y ≡ e ∷ queue_at es' y
  own-queue = queue-was es es' y a a' r ∙ front ∙ ap (λ zs. e ∷ zs) (sym (queue-here es es' y a a' r))

  on-queue : (l : Lane) → same_lane l e.lane ≡ true → on l (queue_at es y) ≡ e ∷ on l (queue_at es' y)
  on-queue l t = ap (on l) own-queue ∙ on-own l e (queue_at es' y) t

  other-queue : (l : Lane) (z : ℕ) → same_lane l e.lane ≡ false → on l (queue_at es z) ≡ on l (queue_at es' z)
  other-queue l z f = ⊎_elim
      (λ (s : z ≡ y). ap (λ k. on l (queue_at es k)) s ∙ ap (on l) own-queue ∙ on-other l e (queue_at es' y) f ∙ sym (ap (λ k. on l (queue_at es' k)) s))
      (λ (s : z ≡ y → ⊥). ap (on l) (sym (queue-there es es' y a a' r z s)))
      (cases_eq z y)

  stops-same : (p q : ℕ) → stops_at es' p q ≡ stops_at es p q
  stops-same p q = on-executor es es' y a a' r (λ (w : StationView). stops_for w.waiting q) (no_stops 0) (ap (λ w. stops_for w q) same) p

  -- it is of a lane that is written and enters this executor
  queued-here : (v.lanes.written e.lane && (v.lanes.target e.lane == y)) ≡ true
  queued-here = ⊎_elim (λ t. t) (λ f. absurd (cons-none e (on e.lane (queue_at es' y)) (sym (on-queue e.lane (same_lane-self e.lane)) ∙ runs.queued y e.lane f))) (cases_Bool (v.lanes.written e.lane && (v.lanes.target e.lane == y)))

  pub task-written : v.lanes.written e.lane ≡ true
  task-written = (and_parts (v.lanes.written e.lane) (v.lanes.target e.lane == y) queued-here).0

  pub task-target : v.lanes.target e.lane ≡ y
  task-target = eqb-true (v.lanes.target e.lane) y ((and_parts (v.lanes.written e.lane) (v.lanes.target e.lane == y) queued-here).1)

  abbrev over : Bool
  over = (runs.lanes e.lane task-written).0

  abbrev waits : List Envelope
  waits = on e.lane (envelopes (backlogs (v.origin e.lane)))

  abbrev cut : Bool
  cut = has_stopped (stops_at es (v.origin e.lane) (v.lanes.target e.lane)) e.lane

  own : LaneStands world (point (v.lanes.taken e.lane) over) (e ∷ on e.lane (queue_at es' (v.lanes.target e.lane))) waits cut (has_stopped work.stopped e.lane) (on e.lane work.items) (v.lanes.came e.lane)
  own = subst (λ zs. LaneStands world (point (v.lanes.taken e.lane) over) zs waits cut (has_stopped work.stopped e.lane) (on e.lane work.items) (v.lanes.came e.lane))
      (ap (λ k. on e.lane (queue_at es k)) task-target ∙ on-queue e.lane (same_lane-self e.lane) ∙ ap (λ k. e ∷ on e.lane (queue_at es' k)) (sym task-target)) (runs.lanes e.lane task-written).1

  pub task-number : e.number ≡ v.lanes.taken e.lane
  task-number = own.between.0.number

  pub task-good : IsGood world e
  task-good = own.between.0.good

  tasked-here : LaneStands world (point (taken_with v.lanes.taken e e.lane) (closes e.item)) (on e.lane (queue_at es' (v.lanes.target e.lane))) waits (has_stopped (stops_at es' (v.origin e.lane) (v.lanes.target e.lane)) e.lane)
      (has_stopped work.stopped e.lane) (on e.lane work.items) (v.lanes.came e.lane)
  tasked-here =
      subst (λ (z : ℕ × StopsView). LaneStands world (point z.0 (closes e.item)) (on e.lane (queue_at es' (v.lanes.target e.lane))) waits (has_stopped z.1 e.lane) (has_stopped work.stopped e.lane) (on e.lane work.items) (v.lanes.came e.lane))
      (λ i. (sym (cond-true (same_lane e.lane e.lane) (e.number + 1) (v.lanes.taken e.lane) (same_lane-self e.lane)) i, sym (stops-same (v.origin e.lane) (v.lanes.target e.lane)) i))
      (lane-task world cut (has_stopped work.stopped e.lane) (point (v.lanes.taken e.lane) over) (v.lanes.came e.lane) e (on e.lane (queue_at es' (v.lanes.target e.lane))) waits (on e.lane work.items) own)

  pub tasked : NetRuns world (record v { lanes = record v.lanes { taken = taken_with v.lanes.taken e } }) x es' backlogs work
  tasked = record {
    lanes = λ l w. ⊎_elim
        (λ (t : same_lane l e.lane ≡ true).
        subst (λ (m : Lane). (o : Bool) × LaneStands world (point (taken_with v.lanes.taken e m) o) (on m (queue_at es' (v.lanes.target m))) (on m (envelopes (backlogs (v.origin m)))) (has_stopped (stops_at es' (v.origin m) (v.lanes.target m)) m) (has_stopped work.stopped m) (on m work.items) (v.lanes.came m))
        (sym (same_lane-equal l e.lane t)) (closes e.item, tasked-here))
        (λ (f : same_lane l e.lane ≡ false).
        let s = runs.lanes l w in (
          s.0,
          subst (λ (z : ℕ × List Envelope × StopsView). LaneStands world (point z.0 s.0) z.1 (on l (envelopes (backlogs (v.origin l)))) (has_stopped z.2 l) (has_stopped work.stopped l) (on l work.items) (v.lanes.came l))
              (λ i. (sym (cond-false (same_lane l e.lane) (e.number + 1) (v.lanes.taken l) f) i, other-queue l (v.lanes.target l) f i, sym (stops-same (v.origin l) (v.lanes.target l)) i)) s.1,
        ))
        (cases_Bool (same_lane l e.lane));
    direct = λ l w o.
        let d = runs.direct l w o in (
          ⊎_elim
              (λ (t : same_lane l e.lane ≡ true).
              let m = same_lane-equal l e.lane t in
              absurd (cons-none e (on l (queue_at es' y)) (sym (on-queue l t) ∙ ap (λ k. on l (queue_at es k)) (sym (ap v.lanes.target m ∙ task-target)) ∙ d.0)))
              (λ (f : same_lane l e.lane ≡ false). sym (other-queue l (v.lanes.target l) f) ∙ d.0)
              (cases_Bool (same_lane l e.lane)),
          d.1,
          ap (λ s. has_stopped s l) (stops-same (v.origin l) (v.lanes.target l)) ∙ d.2,
        );
    listed = runs.listed;
    queued = λ z l n. ⊎_elim
        (λ (t : same_lane l e.lane ≡ true). ⊎_elim
        (λ (s : z ≡ y).
        absurd (both_ways (v.lanes.written l && (v.lanes.target l == z)) n (ap (λ m. v.lanes.written m && (v.lanes.target m == z)) (same_lane-equal l e.lane t) ∙ ap (λ k. v.lanes.written e.lane && (v.lanes.target e.lane == k)) s ∙ queued-here)))
        (λ (s : z ≡ y → ⊥). ap (on l) (queue-there es es' y a a' r z s) ∙ runs.queued z l n)
        (cases_eq z y))
        (λ (f : same_lane l e.lane ≡ false). sym (other-queue l z f) ∙ runs.queued z l n)
        (cases_Bool (same_lane l e.lane));
    waits = runs.waits;
    entries = runs.entries;
    holds = λ z b at. ⊎_elim
        (λ (s : z ≡ y).
        let b-is : a' ≡ b = same_Some a' b (sym r.is ∙ ap (slice_get es') (sym s) ∙ at) in
        subst (λ w. Holds w (backlogs z)) (sym same ∙ ap (λ (c : StationView). c.waiting) b-is) (subst (λ k. Holds a.waiting (backlogs k)) (sym s) (runs.holds y a r.was)))
        (λ (s : z ≡ y → ⊥). runs.holds z b (sym (r.others z s) ∙ at))
        (cases_eq z y);
    targets = λ z b at. ⊎_elim
        (λ (s : z ≡ y).
        let b-is : a' ≡ b = same_Some a' b (sym r.is ∙ ap (slice_get es') (sym s) ∙ at) in
        ap (λ (c : StationView). length c.waiting.targets) (sym b-is) ∙ ap (λ w. length w.targets) same ∙ runs.targets y a r.was ∙ sym r.count)
        (λ (s : z ≡ y → ⊥). runs.targets z b (sym (r.others z s) ∙ at) ∙ sym r.count)
        (cases_eq z y);
    there = λ l t. subst (λ n. (v.origin l < n) × (v.lanes.target l < n)) (sym r.count) (runs.there l t);
    hops = runs.hops;
    placed = λ p q t u. subst (λ s. HasPlaces s (runs.hops p q)) (sym (stops-same p q)) (runs.placed p q (subst (λ n. p < n) r.count t) (subst (λ n. q < n) r.count u));
    among = runs.among;
  }

  pub task-few : AreFew v es work → AreFew v es' work
  task-few f = record {
    added = λ z b at. ⊎_elim
        (λ (s : z ≡ y).
        let b-is : a' ≡ b = same_Some a' b (sym r.is ∙ ap (slice_get es') (sym s) ∙ at) in
        subst (λ n. n + length work.items ≤ v.work_done) (ap (λ w. w.added) (sym same) ∙ ap (λ (c : StationView). c.waiting.added) b-is) (f.added y a r.was))
        (λ (s : z ≡ y → ⊥). f.added z b (sym (r.others z s) ∙ at))
        (cases_eq z y);
    few = f.few;
  }
