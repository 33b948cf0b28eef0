-- An item for another executor goes from the work list to the backlog.
use Rattle.std.proofs.Common.{◌≡◌, ◌≢◌, ◌↔◌, ℕ, ◌+◌, ◌<◌, ◌^◌, Bool, true, false, ◌==◌, ◌||◌, cond, List, [], ◌∷◌, ◌++◌, length, map, slice_get, Some, refl, ap, sym, subst, ◌∙◌, ⊎_elim, arith, append-nil}
use Rattle.std.specs.List.{All}
use Rattle.std.proofs.lemmas.Bool.{cond-true, cond-false, cases_Bool, eq-eqb, ne_eqb, cases_eq}
use Rattle.std.proofs.lemmas.List.Elements.{All-append}
use Rattle.std.proofs.lemmas.Option.{same_Some}
use Rattle.std.proofs.Math.Bool.{or-false}
use Rattle.pl_event.specs.declared.envelopes.Envelope.{Envelope}
use Rattle.pl_event.specs.declared.envelopes.Lane.{Lane}
use Rattle.pl_event.specs.Hops.{same_lane}
use Rattle.pl_event.specs.Worlds.{World}
use Rattle.pl_event.proofs.SameLanes.{same_lane-equal, same_lane-self}
use Rattle.pl_context.specs.declared.added.Added.{Added}
use Rattle.pl_context.specs.declared.added.Added.TheVariants as answers
use Rattle.pl_context.specs.Stops.{StopsView, has_stopped, no_stops, HasPlaces, AreAmong}
use Rattle.pl_context.specs.OutputsViews.{OutputsView, added_items, stopped_after}
use Rattle.pl_context.specs.Backlogs.{BacklogView}
use Rattle.pl_context.specs.declared.waiting.Stamp.{Stamp}
use Rattle.std.specs.Option.{option_map_or}
use Rattle.pl_context.specs.WaitingViews.{Entry, Holds, stops_for}
use Rattle.pl_context.proofs.Places.{places-for, places-after}
use Rattle.pl_flow.specs.Flows.{Point, point, after, on, IsNext, past}
use Rattle.pl_flow.specs.Makes.{LaneGrows}
use Rattle.pl_flow.proofs.FlowLemmas.{on-append}
use Rattle.pl_flow.proofs.MakeLemmas.{one-grows, added-other, stopped-with}
use Rattle.pl_net.specs.NodesViews.{NodesView}
use Rattle.pl_net.specs.Nets.{StationView, queue_at, stops_at, envelopes, LaneStands, NetRuns, AreFew, IsAdded}
use Rattle.pl_net.proofs.LaneSteps.{lane-added, goes-on}
use Rattle.pl_net.proofs.OneExecutor.{Replaces, on-executor, stops-here, stops-was, stops-there, entry_for, envelopes-more, entries-on}
use Rattle.pl_net.proofs.NetSteps.{there-on, same-on, front-here, front-written, front-origin, listed-left, waits-still}

-- a lane stops for its own items alone
pub stopped-other : (answer : Added) (s : StopsView) (lane l : Lane) → same_lane l lane ≡ false → has_stopped (stopped_after answer s lane) l ≡ has_stopped s l
stopped-other answers.Last s lane l f = refl
stopped-other answers.Discarded s lane l f = refl
stopped-other answers.Refused s lane l f = stopped-with s lane l ∙ ap (λ b. has_stopped s l || b) f ∙ or-false (has_stopped s l)

-- The front of the list is for another executor: that is there, and the lane has its place on the way.
module _ (world : World) (v : NodesView) (x : ℕ) (es : List StationView) (backlogs : ℕ → List (Entry (Unit {0}))) (before mid : OutputsView) (e : Envelope) (runs : NetRuns world v x es backlogs before)
    (front : before.items ≡ e ∷ mid.items) (stops : mid.stopped ≡ before.stopped) (a : StationView) (was : slice_get es x ≡ Some a) where
  pub keep-there : v.lanes.target e.lane < length a.waiting.targets
  keep-there = let t = runs.targets x a was in let h = (runs.there e.lane (front-written world v x es backlogs before mid e runs front stops)).1 in omega (arith, t, h)

  pub keep-placed : HasPlaces (stops_for a.waiting (v.lanes.target e.lane)) (e.lane ∷ [])
  keep-placed =
      let written = front-written world v x es backlogs before mid e runs front stops in
      let origin = front-origin world v x es backlogs before mid e runs front stops in
      subst (λ s. HasPlaces s (e.lane ∷ [])) (ap (λ o. option_map_or (λ (w : StationView). stops_for w.waiting (v.lanes.target e.lane)) o (no_stops 0)) was)
      (places-for (stops_at es x (v.lanes.target e.lane)) (runs.hops x (v.lanes.target e.lane)) (e.lane ∷ [])
      (runs.placed x (v.lanes.target e.lane) (subst (λ k. k < length es) origin (runs.there e.lane written).0) (runs.there e.lane written).1)
      (subst (λ p. AreAmong (e.lane ∷ []) (runs.hops p (v.lanes.target e.lane))) origin (runs.among e.lane written)))

  pub keep-counts : AreFew v es before → a.waiting.added + 1 < 2 ^ 64
  keep-counts f = let h = f.added x a was in let m = f.few in omega (arith, h, m)

module _ (world : World) (v : NodesView) (x : ℕ) (es : List StationView) (backlogs : ℕ → List (Entry (Unit {0}))) (before mid : OutputsView) (e : Envelope) (runs : NetRuns world v x es backlogs before)
    (front : before.items ≡ e ∷ mid.items) (stops : mid.stopped ≡ before.stopped) (away : v.lanes.target e.lane ≢ x)
    (es' : List StationView) (a a' : StationView) (r : Replaces es es' x a a') (adds : IsAdded a (v.lanes.target e.lane) e a') where
  abbrev target : ℕ
  target = v.lanes.target e.lane

  abbrev answer : Added
  answer = adds.adds.answer

  abbrev more : List (Entry (Unit {0}))
  more = map (entry_for target) (added_items answer e)

  -- the backlogs then
  abbrev pub kept : ℕ → List (Entry (Unit {0}))
  kept y = cond (y == x) (backlogs x ++ more) (backlogs y)

  kept-here : kept x ≡ backlogs x ++ more
  kept-here = cond-true (x == x) _ _ (eq-eqb x x refl)

  kept-there : (y : ℕ) → y ≢ x → kept y ≡ backlogs y
  kept-there y other = cond-false (y == x) _ _ (ne_eqb y x other)

  queues : (y : ℕ) → queue_at es' y ≡ queue_at es y
  queues y = on-executor es es' x a a' r (λ (z : StationView). z.queue) [] adds.queue y

  -- of other lanes nothing waits that did not
  waits-other : (y : ℕ) (l : Lane) → same_lane l e.lane ≡ false → on l (envelopes (kept y)) ≡ on l (envelopes (backlogs y))
  waits-other y l f = ⊎_elim
      (λ (s : y ≡ x).
      ap (λ k. on l (envelopes (kept k))) s ∙ ap (λ zs. on l (envelopes zs)) kept-here ∙ ap (on l) (envelopes-more (backlogs x) target (added_items answer e)) ∙ on-append l (envelopes (backlogs x)) (added_items answer e)
      ∙ ap (λ zs. on l (envelopes (backlogs x)) ++ zs) (added-other answer e l f) ∙ append-nil (on l (envelopes (backlogs x))) ∙ sym (ap (λ k. on l (envelopes (backlogs k))) s))
      (λ (s : y ≡ x → ⊥). ap (λ zs. on l (envelopes zs)) (kept-there y s))
      (cases_eq y x)

  stops-others : (y z : ℕ) → (y ≡ x → z ≡ target → ⊥) → stops_at es' y z ≡ stops_at es y z
  stops-others y z other = ⊎_elim
      (λ (s : y ≡ x).
      ap (λ k. stops_at es' k z) s ∙ stops-here es es' x a a' r z
      ∙ ap (λ b. option_map_or (λ (c : BacklogView (Stamp (Unit {0}))). c.stopped) b (no_stops 0)) (adds.adds.others z (λ t. other s t))
      ∙ sym (ap (λ k. stops_at es k z) s ∙ stops-was es es' x a a' r z))
      (λ (s : y ≡ x → ⊥). stops-there es es' x a a' r y z s)
      (cases_eq y x)

  stops-own : stops_at es' x target ≡ stopped_after answer (stops_at es x target) e.lane
  stops-own = stops-here es es' x a a' r target ∙ adds.adds.stopped ∙ ap (λ s. stopped_after answer s e.lane) (sym (stops-was es es' x a a' r target))

  stops-other-lane : (y z : ℕ) (l : Lane) → same_lane l e.lane ≡ false → has_stopped (stops_at es' y z) l ≡ has_stopped (stops_at es y z) l
  stops-other-lane y z l f = ⊎_elim
      (λ (s : y ≡ x). ⊎_elim
      (λ (t : z ≡ target).
      ap (λ (k : ℕ × ℕ). has_stopped (stops_at es' k.0 k.1) l) (λ i. (s i, t i)) ∙ ap (λ q. has_stopped q l) stops-own ∙ stopped-other answer (stops_at es x target) e.lane l f
      ∙ sym (ap (λ (k : ℕ × ℕ). has_stopped (stops_at es k.0 k.1) l) (λ i. (s i, t i))))
      (λ (t : z ≡ target → ⊥). ap (λ q. has_stopped q l) (stops-others y z (λ a. t)))
      (cases_eq z target))
      (λ (s : y ≡ x → ⊥). ap (λ q. has_stopped q l) (stops-others y z (λ t. absurd (s t))))
      (cases_eq y x)

  -- ---- the lane of the item

  written : v.lanes.written e.lane ≡ true
  written = front-written world v x es backlogs before mid e runs front stops

  origin : v.origin e.lane ≡ x
  origin = front-origin world v x es backlogs before mid e runs front stops

  abbrev over : Bool
  over = (runs.lanes e.lane written).0

  abbrev base : Point
  base = point (v.lanes.taken e.lane) over

  abbrev q : List Envelope
  q = on e.lane (queue_at es target)

  abbrev w : List Envelope
  w = on e.lane (envelopes (backlogs x))

  abbrev s0 : StopsView
  s0 = stops_at es x target

  own : LaneStands world base q w (has_stopped s0 e.lane) (has_stopped before.stopped e.lane) (e ∷ on e.lane mid.items) (v.lanes.came e.lane)
  own = subst (λ (y : ℕ × List Envelope). LaneStands world base q (on e.lane (envelopes (backlogs y.0))) (has_stopped (stops_at es y.0 target) e.lane) (has_stopped before.stopped e.lane) y.1 (v.lanes.came e.lane))
      (λ i. (origin i, there-on world v x es backlogs before mid e runs front stops e.lane (same_lane-self e.lane) i)) (runs.lanes e.lane written).1

  keep-next : has_stopped s0 e.lane ≡ false → IsNext world (past base (q ++ w)) e
  keep-next f = (own.runs.flow f).0

  grows : LaneGrows world true (has_stopped s0 e.lane) (has_stopped (stopped_after answer s0 e.lane) e.lane) (past base (q ++ w)) (on e.lane (added_items answer e)) (after e)
  grows = subst (λ p. LaneGrows world true (has_stopped s0 e.lane) (has_stopped (stopped_after answer s0 e.lane) e.lane) (past base (q ++ w)) (on e.lane (added_items answer e)) p)
      (cond-true (same_lane e.lane e.lane) (after e) (past base (q ++ w)) (same_lane-self e.lane))
      (one-grows world (λ l. true) (λ l. past base (q ++ w)) s0 (stopped_after answer s0 e.lane) e refl keep-next answer refl
      (subst (λ s. (answer ≡ answers.Discarded) ↔ (has_stopped s e.lane ≡ true)) (sym (stops-was es es' x a a' r target)) adds.adds.discarded) e.lane)

  kept-own : LaneStands world base (on e.lane (queue_at es' target)) (on e.lane (envelopes (kept (v.origin e.lane)))) (has_stopped (stops_at es' (v.origin e.lane) target) e.lane)
      (has_stopped mid.stopped e.lane) (on e.lane mid.items) (v.lanes.came e.lane)
  kept-own =
      let waits : w ++ on e.lane (added_items answer e) ≡ on e.lane (envelopes (kept (v.origin e.lane))) =
      sym (ap (λ k. on e.lane (envelopes (kept k))) origin ∙ ap (λ zs. on e.lane (envelopes zs)) kept-here ∙ ap (on e.lane) (envelopes-more (backlogs x) target (added_items answer e)) ∙ on-append e.lane (envelopes (backlogs x)) (added_items answer e)) in
      let stopped : stopped_after answer s0 e.lane ≡ stops_at es' (v.origin e.lane) target = sym (ap (λ k. stops_at es' k target) origin ∙ stops-own) in
      subst (λ (y : List Envelope × List Envelope × StopsView × StopsView). LaneStands world base y.0 y.1 (has_stopped y.2 e.lane) (has_stopped y.3 e.lane) (on e.lane mid.items) (v.lanes.came e.lane))
      (λ i. (on e.lane (sym (queues target) i), waits i, stopped i, sym stops i))
      (lane-added world (has_stopped s0 e.lane) (has_stopped (stopped_after answer s0 e.lane) e.lane) (has_stopped before.stopped e.lane) base (after e) (v.lanes.came e.lane) q w (on e.lane (added_items answer e)) (on e.lane mid.items)
      own.between grows
      (record {
        flow = λ c. (own.runs.flow (still c)).1;
        up_to = λ c f. own.runs.up_to (still c) f;
      }))
    where
      still : has_stopped (stopped_after answer s0 e.lane) e.lane ≡ false → has_stopped s0 e.lane ≡ false
      still c = goes-on world (has_stopped s0 e.lane) (has_stopped (stopped_after answer s0 e.lane) e.lane) (past base (q ++ w)) (after e) (on e.lane (added_items answer e)) grows c

  -- ---- all lanes

  pub keeps : NetRuns world v x es' kept mid
  keeps = record {
    lanes = λ l t. ⊎_elim
        (λ (m : same_lane l e.lane ≡ true).
        subst (λ (k : Lane). (o : Bool) × LaneStands world (point (v.lanes.taken k) o) (on k (queue_at es' (v.lanes.target k))) (on k (envelopes (kept (v.origin k)))) (has_stopped (stops_at es' (v.origin k) (v.lanes.target k)) k) (has_stopped mid.stopped k) (on k mid.items) (v.lanes.came k))
        (sym (same_lane-equal l e.lane m)) (over, kept-own))
        (λ (f : same_lane l e.lane ≡ false).
        let s = runs.lanes l t in (
          s.0,
          subst (λ (y : List Envelope × List Envelope × Bool × StopsView × List Envelope). LaneStands world (point (v.lanes.taken l) s.0) y.0 y.1 y.2 (has_stopped y.3 l) y.4 (v.lanes.came l))
              (λ i. (on l (sym (queues (v.lanes.target l)) i), sym (waits-other (v.origin l) l f) i, sym (stops-other-lane (v.origin l) (v.lanes.target l) l f) i, sym stops i, same-on world v x es backlogs before mid e runs front stops l f i)) s.1,
        ))
        (cases_Bool (same_lane l e.lane));
    direct = λ l t same. ⊎_elim
        (λ (m : same_lane l e.lane ≡ true). let k = same_lane-equal l e.lane m in absurd (away (sym (ap v.lanes.target k) ∙ sym same ∙ ap v.origin k ∙ origin)))
        (λ (f : same_lane l e.lane ≡ false).
        let d = runs.direct l t same in
        (ap (on l) (queues (v.lanes.target l)) ∙ d.0, waits-other (v.origin l) l f ∙ d.1, stops-other-lane (v.origin l) (v.lanes.target l) l f ∙ d.2))
        (cases_Bool (same_lane l e.lane));
    listed = listed-left world v x es backlogs before mid e runs front stops;
    queued = λ y l n. ap (on l) (queues y) ∙ runs.queued y l n;
    waits = waits-still world v x es backlogs before runs x e.lane (front-here world v x es backlogs before mid e runs front stops) kept kept-there waits-other;
    entries = λ y. ⊎_elim
        (λ (s : y ≡ x).
        subst (λ (zs : List (Entry (Unit {0}))). All (λ z. z.target ≡ v.lanes.target z.envelope.lane) zs) (sym (ap kept s ∙ kept-here))
        (All-append (λ (z : Entry (Unit {0})). z.target ≡ v.lanes.target z.envelope.lane) (backlogs x) more (runs.entries x) (entries-on (λ l k. k ≡ v.lanes.target l) answer e target refl)))
        (λ (s : y ≡ x → ⊥). subst (λ (zs : List (Entry (Unit {0}))). All (λ z. z.target ≡ v.lanes.target z.envelope.lane) zs) (sym (kept-there y s)) (runs.entries y))
        (cases_eq y x);
    holds = λ y b at. ⊎_elim
        (λ (s : y ≡ x).
        let same : a' ≡ b = same_Some a' b (sym r.is ∙ ap (slice_get es') (sym s) ∙ at) in
        subst (λ (z : StationView × List (Entry (Unit {0}))). Holds z.0.waiting z.1) (λ i. (same i, sym (ap kept s ∙ kept-here) i)) (adds.adds.holds (backlogs x) (runs.holds x a r.was)))
        (λ (s : y ≡ x → ⊥). subst (λ (zs : List (Entry (Unit {0}))). Holds b.waiting zs) (sym (kept-there y s)) (runs.holds y b (sym (r.others y s) ∙ at)))
        (cases_eq y x);
    targets = λ y b at. ⊎_elim
        (λ (s : y ≡ x).
        let same : a' ≡ b = same_Some a' b (sym r.is ∙ ap (slice_get es') (sym s) ∙ at) in
        ap (λ (z : StationView). length z.waiting.targets) (sym same) ∙ adds.adds.targets ∙ runs.targets x a r.was ∙ sym r.count)
        (λ (s : y ≡ x → ⊥). runs.targets y b (sym (r.others y s) ∙ at) ∙ sym r.count)
        (cases_eq y x);
    there = λ l t. subst (λ n. (v.origin l < n) × (v.lanes.target l < n)) (sym r.count) (runs.there l t);
    hops = runs.hops;
    placed = λ y z t u. ⊎_elim
        (λ (s : y ≡ x). ⊎_elim
        (λ (k : z ≡ target).
        subst (λ (p : ℕ × ℕ). HasPlaces (stops_at es' p.0 p.1) (runs.hops p.0 p.1)) (λ i. (sym s i, sym k i))
        (subst (λ p. HasPlaces p (runs.hops x target)) (sym stops-own)
        (places-after answer s0 (runs.hops x target) e.lane placed-own (subst (λ p. AreAmong (e.lane ∷ []) (runs.hops p target)) origin (runs.among e.lane written)))))
        (λ (k : z ≡ target → ⊥). subst (λ p. HasPlaces p (runs.hops y z)) (sym (stops-others y z (λ a. k))) (runs.placed y z (subst (λ n. y < n) r.count t) (subst (λ n. z < n) r.count u)))
        (cases_eq z target))
        (λ (s : y ≡ x → ⊥). subst (λ p. HasPlaces p (runs.hops y z)) (sym (stops-others y z (λ k. absurd (s k)))) (runs.placed y z (subst (λ n. y < n) r.count t) (subst (λ n. z < n) r.count u)))
        (cases_eq y x);
    among = runs.among;
  }
    where
      placed-own : HasPlaces s0 (runs.hops x target)
      placed-own = runs.placed x target (subst (λ k. k < length es) origin (runs.there e.lane written).0) (runs.there e.lane written).1

  pub keep-few : AreFew v es before → AreFew v es' mid
  keep-few f = record {
    added = λ y b at. ⊎_elim
        (λ (s : y ≡ x).
        let same : a' ≡ b = same_Some a' b (sym r.is ∙ ap (slice_get es') (sym s) ∙ at) in
        let n = ap (λ (z : StationView). z.waiting.added) same in
        let h = f.added x a r.was in
        let m = adds.adds.added in
        let k = ap length front in omega (arith, n, h, m, k))
        (λ (s : y ≡ x → ⊥). let h = f.added y b (sym (r.others y s) ∙ at) in let k = ap length front in omega (arith, h, k))
        (cases_eq y x);
    few = f.few;
  }
