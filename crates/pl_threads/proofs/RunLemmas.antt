-- An executor's work list, step by step.
use Rattle.std.proofs.Common.{◌≡◌, ◌≢◌, ℕ, ◌+◌, ◌-◌, ◌<◌, ◌^◌, Bool, true, false, ◌&&◌, ◌==◌, List, [], ◌∷◌, ◌++◌, length, get_or, Some, refl, ap, sym, ◌∙◌, subst, ⊎_elim, arith}
use Rattle.std.specs.Option.{option_map_or}
use Rattle.std.proofs.lemmas.Bool.{cond-true, cond-false, cases_Bool, both_ways, eq-eqb, cases_eq, and_right}
use Rattle.std.proofs.lemmas.Option.{same_Some}
use Rattle.pl_event.specs.declared.envelopes.Envelope.{Envelope}
use Rattle.pl_event.specs.declared.envelopes.Lane.{Lane}
use Rattle.pl_event.specs.Hops.{same_lane}
use Rattle.pl_event.specs.Worlds.{World, closes}
use Rattle.pl_event.proofs.SameLanes.{same_lane-equal, same_lane-self}
use Rattle.pl_event.proofs.Lists.{cons-none}
use Rattle.pl_context.specs.Stops.{StopsView, has_stopped, AreAmong, HasPlaces, no_stops}
use Rattle.pl_context.specs.Backlogs.{BacklogView}
use Rattle.pl_context.specs.declared.waiting.Stamp.{Stamp}
use Rattle.pl_context.specs.OutputsViews.{OutputsView}
use Rattle.pl_context.specs.WaitingViews.{stops_for}
use Rattle.pl_context.proofs.Places.{places-for}
use Rattle.pl_queue.specs.declared.views.TakeCount.{TakeCount}
use Rattle.pl_queue.specs.Views.{next_of, set_take_count}
use Rattle.pl_queue.proofs.Lists.{next_of-set}
use Rattle.pl_words.specs.Admissions.{AdmittedView}
use Rattle.pl_flow.specs.Flows.{Point, point, after, on, IsGood, IsNext, IsFlow}
use Rattle.pl_flow.specs.LaneRuns.{LaneRuns}
use Rattle.pl_flow.specs.LanesViews.{LanesView, SameRoutes, KeepsPlaces, taken_with}
use Rattle.pl_flow.proofs.FlowLemmas.{on-append, on-own, on-other}
use Rattle.pl_flow.proofs.LaneRunLemmas.{lane-grows, lane-leaves, lane-behind}
use Rattle.pl_outbox.specs.Admitting.{AdmitsOnce}
use Rattle.pl_outbox.specs.OutboxViews.{OutboxesView, way_to, reached, is_cut, Adds, SomeClosed, Stays}
use Rattle.pl_outbox.proofs.AdmissionLemmas.{admits_on, admits_more}
use Rattle.pl_threads.specs.declared.cores.Core.{Core}
use Rattle.pl_threads.specs.Cores.{CoreHolds}
use Rattle.pl_threads.specs.NodesViews.{OwnNodesView, NodesKeep, LanesMake, TakesOwn}
use Rattle.pl_threads.specs.Running.{RunsOn, IsTaking}

-- the ways are the same
ways-same : (o o' : OutboxesView) (executor : ℕ) → o'.ways ≡ o.ways → way_to o executor ≡ way_to o' executor
ways-same o o' executor same = ap (λ (ways : List ℕ). get_or ways executor (2 ^ 16 - 1)) (sym same)

-- Nothing is on the list, and nothing was sent or waits: what was made has gone on.
pub runs-start : (world : World) (me : ℕ) (v : LanesView) (o : OutboxesView) (work : OutputsView) → work.items ≡ []
    → ((l : Lane) → v.target l ≡ me → v.written l ≡ true → (over : Bool) × (v.came l ≡ point (v.taken l) over)) → ((l : Lane) → v.target l ≢ me → v.written l ≡ true → v.came l ≡ reached o (way_to o (v.target l)) l)
    → ((l : Lane) → v.written l ≡ true → v.target l ≢ me → way_to o (v.target l) < length o.outboxes) → (hops : ℕ → List Lane) → ((y : ℕ) → y < length o.outboxes → HasPlaces (stops_for o.waiting y) (hops y))
    → ((l : Lane) → v.written l ≡ true → AreAmong (l ∷ []) (hops (way_to o (v.target l)))) → RunsOn world me v o work
runs-start world me v o work none own away there hops placed among = record {
  own = λ l t w. let h = own l t w in (h.0, empty (point (v.taken l) h.0) (v.came l) (has_stopped work.stopped l) false l (sym h.1));
  away = λ l t w. empty (reached o (way_to o (v.target l)) l) (v.came l) (has_stopped work.stopped l) (is_cut o (way_to o (v.target l)) l) l (sym (away l t w));
  others = λ l w. ap (λ zs. on l zs) none;
  there = there;
  hops = hops;
  placed = placed;
  among = among;
}
  where
    empty : (base made : Point) (stopped cut : Bool) (l : Lane) → base ≡ made → LaneRuns world base cut stopped (on l work.items) made
    empty base made stopped cut l same = subst (λ zs. LaneRuns world base cut stopped (on l zs) made) (sym none) (record { flow = λ c. tt; up_to = λ c e. same })

-- ---- the front of the list

module _ {world : World} {me : ℕ} {v : LanesView} {o : OutboxesView} {before : OutputsView} {x : Envelope} (mid : OutputsView) (r : RunsOn world me v o before) (front : before.items ≡ x ∷ mid.items) (stops : mid.stopped ≡ before.stopped) where
  there-on : (l : Lane) → same_lane l x.lane ≡ true → on l before.items ≡ x ∷ on l mid.items
  there-on l t = ap (λ zs. on l zs) front ∙ on-own l x mid.items t

  same-on : (l : Lane) → same_lane l x.lane ≡ false → on l before.items ≡ on l mid.items
  same-on l t = ap (λ zs. on l zs) front ∙ on-other l x mid.items t

  -- it is of a lane that the nodes write
  pub front-written : v.written x.lane ≡ true
  front-written = ⊎_elim (λ t. t) (λ f. absurd (cons-none x (on x.lane mid.items) (sym (there-on x.lane (same_lane-self x.lane)) ∙ r.others x.lane f))) (cases_Bool (v.written x.lane))

  -- where its lane enters one of them, it is the next to be taken
  own-next : v.target x.lane ≡ me → (over : Bool) × IsFlow world (point (v.taken x.lane) over) (x ∷ on x.lane mid.items)
  own-next here =
      let own = r.own x.lane here front-written in
      (own.0, subst (λ zs. IsFlow world (point (v.taken x.lane) own.0) zs) (there-on x.lane (same_lane-self x.lane)) (own.1.flow refl))

  pub own-number : v.target x.lane ≡ me → x.number ≡ v.taken x.lane
  own-number here = (own-next here).1.0.number

  pub own-good : v.target x.lane ≡ me → IsGood world x
  own-good here = (own-next here).1.0.good

  -- where it enters another executor, that is there, has a place for it, and it is the next of its lane there
  pub away-there : v.target x.lane ≢ me → way_to o (v.target x.lane) < length o.outboxes
  away-there away = r.there x.lane front-written away

  pub away-next : v.target x.lane ≢ me → is_cut o (way_to o (v.target x.lane)) x.lane ≡ false → IsNext world (reached o (way_to o (v.target x.lane)) x.lane) x
  away-next away goes = (subst (λ zs. IsFlow world (reached o (way_to o (v.target x.lane)) x.lane) zs) (there-on x.lane (same_lane-self x.lane)) ((r.away x.lane away front-written).flow goes)).0

  pub away-placed : v.target x.lane ≢ me → HasPlaces (stops_for o.waiting (way_to o (v.target x.lane))) (x.lane ∷ [])
  away-placed away = let way = way_to o (v.target x.lane) in places-for (stops_for o.waiting way) (r.hops way) (x.lane ∷ []) (r.placed way (away-there away)) (r.among x.lane front-written)

  others-left : (l : Lane) → v.written l ≡ false → on l mid.items ≡ []
  others-left l w = ⊎_elim
      (λ (t : same_lane l x.lane ≡ true). absurd (both_ways (v.written l) w (subst (λ m. v.written m ≡ true) (sym (same_lane-equal l x.lane t)) front-written)))
      (λ (t : same_lane l x.lane ≡ false). sym (same-on l t) ∙ r.others l w)
      (cases_Bool (same_lane l x.lane))

  -- it is of a lane that they write themselves
  pub front-taken : (v' : LanesView) → v'.taken ≡ taken_with v.taken x → TakesOwn v v'
  front-taken v' counts l w = ⊎_elim
      (λ (t : same_lane l x.lane ≡ true). absurd (both_ways (v.written l) w (subst (λ m. v.written m ≡ true) (sym (same_lane-equal l x.lane t)) front-written)))
      (λ (f : same_lane l x.lane ≡ false). ap (λ (n : Lane → ℕ). n l) counts ∙ cond-false (same_lane l x.lane) _ _ f)
      (cases_Bool (same_lane l x.lane))

  -- it was taken here
  pub own-taken : v.target x.lane ≡ me → RunsOn world me (record v { taken = taken_with v.taken x }) o mid
  own-taken here = record {
    own = λ l t w. let own = r.own l t w in ⊎_elim
        (λ (e : same_lane l x.lane ≡ true).
        let n : taken_with v.taken x l ≡ x.number + 1 = cond-true (same_lane l x.lane) _ _ e in
        let b = subst (λ zs. LaneRuns world (point (v.taken l) own.0) false (has_stopped before.stopped l) zs (v.came l)) (there-on l e) own.1 in
        let a = lane-leaves world (has_stopped before.stopped l) false (point (v.taken l) own.0) (v.came l) x (on l mid.items) b in
        (closes x.item, subst (λ (y : StopsView × ℕ). LaneRuns world (point y.1 (closes x.item)) false (has_stopped y.0 l) (on l mid.items) (v.came l)) (λ i. (sym stops i, sym n i)) a))
        (λ (e : same_lane l x.lane ≡ false).
        let n : taken_with v.taken x l ≡ v.taken l = cond-false (same_lane l x.lane) _ _ e in
        (own.0, subst (λ (y : StopsView × ℕ × List Envelope). LaneRuns world (point y.1 own.0) false (has_stopped y.0 l) y.2 (v.came l)) (λ i. (sym stops i, sym n i, same-on l e i)) own.1))
        (cases_Bool (same_lane l x.lane));
    away = λ l t w. ⊎_elim
        (λ (e : same_lane l x.lane ≡ true). absurd (t (ap v.target (same_lane-equal l x.lane e) ∙ here)))
        (λ (e : same_lane l x.lane ≡ false).
        subst (λ (y : StopsView × List Envelope). LaneRuns world (reached o (way_to o (v.target l)) l) (is_cut o (way_to o (v.target l)) l) (has_stopped y.0 l) y.1 (v.came l)) (λ i. (sym stops i, same-on l e i)) (r.away l t w))
        (cases_Bool (same_lane l x.lane));
    others = others-left;
    there = r.there;
    hops = r.hops;
    placed = r.placed;
    among = r.among;
  }

  -- it waits for another executor, or was refused there
  pub away-added : (o' : OutboxesView) → v.target x.lane ≢ me → Adds o (way_to o (v.target x.lane)) x o' → RunsOn world me v o' mid
  away-added o' away adds = record {
    own = λ l t w. let b = r.own l t w in ⊎_elim
        (λ (e : same_lane l x.lane ≡ true). absurd (away (sym (ap v.target (same_lane-equal l x.lane e)) ∙ t)))
        (λ (e : same_lane l x.lane ≡ false).
        (b.0, subst (λ (y : StopsView × List Envelope). LaneRuns world (point (v.taken l) b.0) false (has_stopped y.0 l) y.1 (v.came l)) (λ i. (sym stops i, same-on l e i)) b.1))
        (cases_Bool (same_lane l x.lane));
    away = λ l t w. let b = r.away l t w in
        let k = way_to o (v.target l) in
        subst (λ (n : ℕ). LaneRuns world (reached o' n l) (is_cut o' n l) (has_stopped mid.stopped l) (on l mid.items) (v.came l)) (same-way l) (⊎_elim
        (λ (e : same_lane l x.lane ≡ true).
        let b' = subst (λ (y : StopsView × List Envelope). LaneRuns world (reached o k l) (is_cut o k l) (has_stopped y.0 l) y.1 (v.came l)) (λ i. (sym stops i, there-on l e i)) b in
        lane-behind world (has_stopped mid.stopped l) (is_cut o k l) (is_cut o' k l) (after x) (reached o' k l) (v.came l) (on l mid.items)
        (lane-leaves world (has_stopped mid.stopped l) (is_cut o k l) (reached o k l) (v.came l) x (on l mid.items) b')
        (λ c. (adds.cut k l c, adds.reached k l c ∙ cond-true ((k == way_to o (v.target x.lane)) && same_lane l x.lane) _ _ (ap (λ (s : Bool). s && same_lane l x.lane) (eq-eqb k (way_to o (v.target x.lane)) (ap (λ (m : Lane). way_to o (v.target m)) (same_lane-equal l x.lane e))) ∙ e))))
        (λ (e : same_lane l x.lane ≡ false).
        let b' = subst (λ (y : StopsView × List Envelope). LaneRuns world (reached o k l) (is_cut o k l) (has_stopped y.0 l) y.1 (v.came l)) (λ i. (sym stops i, same-on l e i)) b in
        lane-behind world (has_stopped mid.stopped l) (is_cut o k l) (is_cut o' k l) (reached o k l) (reached o' k l) (v.came l) (on l mid.items) b'
        (λ c. (adds.cut k l c, adds.reached k l c ∙ cond-false ((k == way_to o (v.target x.lane)) && same_lane l x.lane) _ _ (and_right (k == way_to o (v.target x.lane)) (same_lane l x.lane) e))))
        (cases_Bool (same_lane l x.lane)));
    others = others-left;
    there = λ l w t. let h = r.there l w t in let n = adds.count in let same = same-way l in omega (arith, h, n, same);
    hops = r.hops;
    placed = λ y within.
        let p = r.placed y (let n = adds.count in omega (arith, within, n)) in ⊎_elim
        (λ (e : y ≡ way_to o (v.target x.lane)).
        subst (λ k. HasPlaces (stops_for o'.waiting k) (r.hops k)) (sym e)
        (adds.placed (r.hops (way_to o (v.target x.lane))) (r.among x.lane front-written) (subst (λ k. HasPlaces (stops_for o.waiting k) (r.hops k)) e p)))
        (λ (e : y ≡ way_to o (v.target x.lane) → ⊥).
        subst (λ s. HasPlaces s (r.hops y)) (sym (ap (λ b. option_map_or (λ (c : BacklogView (Stamp AdmittedView)). c.stopped) b (no_stops 0)) (adds.others y e).1)) p)
        (cases_eq y (way_to o (v.target x.lane)));
    among = λ l w. subst (λ (k : ℕ). AreAmong (l ∷ []) (r.hops k)) (same-way l) (r.among l w);
  }
    where
      same-way : (l : Lane) → way_to o (v.target l) ≡ way_to o' (v.target l)
      same-way l = ways-same o o' (v.target l) adds.ways

-- ---- what nodes put on the list

-- there are still places for it
places-on : (v v' : LanesView) (before after : StopsView) → SameRoutes v v' → KeepsPlaces v.places before after → HasPlaces before v.places → HasPlaces after v'.places
places-on v v' before after same placed has = subst (λ (u : LanesView). HasPlaces after u.places) (sym same) (placed v.places (λ l e. e) has)

-- what they put follows, and as much was taken as is said
runs-on : {world : World} {me : ℕ} {o : OutboxesView} {mid after : OutputsView} (v v' : LanesView) (taken : Lane → ℕ) → RunsOn world me (record v { taken = taken }) o mid → LanesMake world v mid v' after → SameRoutes v v' → v'.taken ≡ taken → RunsOn world me v' o after
runs-on {world} {me} {o} {mid} {after} v v' taken r m same counts = subst (λ (u : LanesView). RunsOn world me u o after) (sym (same ∙ (λ i. record v { taken = counts i; came = v'.came }))) (record {
  own = λ l here own.
      let b = r.own l here own in
      let g = lane-grows world (v.written l) (has_stopped mid.stopped l) (has_stopped after.stopped l) false (point (taken l) b.0) (v.came l) (v'.came l) (on l mid.items) (on l m.added) b.1 (m.lanes l) in
      (b.0, subst (λ (y : List Envelope). LaneRuns world (point (taken l) b.0) false (has_stopped after.stopped l) y (v'.came l)) (sym (more l)) g);
  away = λ l off own.
      subst (λ (y : List Envelope). LaneRuns world (reached o (way_to o (v.target l)) l) (is_cut o (way_to o (v.target l)) l) (has_stopped after.stopped l) y (v'.came l)) (sym (more l))
      (lane-grows world (v.written l) (has_stopped mid.stopped l) (has_stopped after.stopped l) (is_cut o (way_to o (v.target l)) l) (reached o (way_to o (v.target l)) l) (v.came l) (v'.came l) (on l mid.items) (on l m.added) (r.away l off own) (m.lanes l));
  others = λ l no. more l ∙ ap (λ zs. zs ++ on l m.added) (r.others l no) ∙ (m.lanes l).idle no;
  there = r.there;
  hops = r.hops;
  placed = r.placed;
  among = r.among;
})
  where
    more : (l : Lane) → on l after.items ≡ on l mid.items ++ on l m.added
    more l = ap (λ zs. on l zs) m.items ∙ on-append l mid.items m.added

-- So a core holds again: these were its nodes, and they have put what they made on this list.
pub holds-on : {W M N S T : Type 0} {view_of : N → OwnNodesView} {stands : N → Type 0} {world : World} {c : Core W M N S T} (nodes : N) (mid : OutputsView) (taken : Lane → ℕ)
    → (view_of nodes).executor ≡ c.number → HasPlaces mid.stopped (view_of nodes).lanes.places → RunsOn world c.number (record (view_of nodes).lanes { taken = taken }) c.outboxes mid → AdmitsOnce (view_of nodes).lanes c.outboxes mid
    → stands c.nodes → NodesKeep (view_of nodes) (view_of c.nodes) → (view_of c.nodes).lanes.taken ≡ taken → KeepsPlaces (view_of nodes).lanes.places mid.stopped c.work.stopped
    → LanesMake world (view_of nodes).lanes mid (view_of c.nodes).lanes c.work → ((view_of c.nodes).was_refused ≡ true → SomeClosed c.outboxes) → CoreHolds view_of stands world c
holds-on {view_of = view_of} {c = c} nodes mid taken at places runs admits stood keeps counts placed made why = record {
  stood = stood;
  at = keeps.executor ∙ at;
  places = places-on (view_of nodes).lanes (view_of c.nodes).lanes mid.stopped c.work.stopped keeps.routes placed places;
  runs = runs-on (view_of nodes).lanes (view_of c.nodes).lanes taken runs made keeps.routes counts;
  why = why;
  admits = admits_more (view_of c.nodes).lanes admits made keeps.routes;
}

-- ---- a task

-- An item of a lane that another executor writes was taken.
pub task-taken : {world : World} {me : ℕ} {v : LanesView} {o : OutboxesView} {work : OutputsView} (x : Envelope) → RunsOn world me v o work → v.written x.lane ≡ false → RunsOn world me (record v { taken = taken_with v.taken x }) o work
task-taken {world} {me} {v} {o} {work} x r not = record {
  own = λ l t w. let own = r.own l t w in ⊎_elim
      (λ (e : same_lane l x.lane ≡ true). absurd (both_ways (v.written x.lane) not (subst (λ m. v.written m ≡ true) (same_lane-equal l x.lane e) w)))
      (λ (e : same_lane l x.lane ≡ false).
      (own.0, subst (λ n. LaneRuns world (point n own.0) false (has_stopped work.stopped l) (on l work.items) (v.came l)) (sym (cond-false (same_lane l x.lane) _ _ e)) own.1))
      (cases_Bool (same_lane l x.lane));
  away = r.away;
  others = r.others;
  there = r.there;
  hops = r.hops;
  placed = r.placed;
  among = r.among;
}

-- The taker's next numbers are the nodes' again. (What they take by direct calls is of lanes that they write.)
pub taking-taken : (me : ℕ) (v v' : LanesView) (counts : List TakeCount) (x : Envelope) → IsTaking me v counts → next_of x.lane counts ≡ Some x.number → SameRoutes v v' → v'.taken ≡ taken_with v.taken x
    → IsTaking me v' (set_take_count x.lane (x.number + 1) counts)
taking-taken me v v' counts x taking now same took = subst (λ (u : LanesView). IsTaking me u (set_take_count x.lane (x.number + 1) counts)) (sym (same ∙ (λ i. record v { taken = took i; came = v'.came }))) (λ l n next. ⊎_elim
    (λ (e : same_lane l x.lane ≡ true).
    let is = taking x.lane x.number now in
    let m = same_lane-equal l x.lane e in
    let k : x.number + 1 ≡ n = same_Some (x.number + 1) n (sym (cond-true (same_lane l x.lane) _ _ e) ∙ sym (next_of-set x.lane l (x.number + 1) counts x.number now) ∙ next) in
    (ap v.target m ∙ is.0, ap v.written m ∙ is.1, cond-true (same_lane l x.lane) _ _ e ∙ k))
    (λ (e : same_lane l x.lane ≡ false).
    let is = taking l n (sym (cond-false (same_lane l x.lane) _ _ e) ∙ sym (next_of-set x.lane l (x.number + 1) counts x.number now) ∙ next) in
    (is.0, is.1, cond-false (same_lane l x.lane) _ _ e ∙ is.2))
    (cases_Bool (same_lane l x.lane)))

-- Items of lanes that the nodes write were taken by direct calls.
pub taking-stays : (me : ℕ) (v v' : LanesView) (counts : List TakeCount) → IsTaking me v counts → SameRoutes v v' → TakesOwn v v' → IsTaking me v' counts
taking-stays me v v' counts taking same own l n next =
    let is = taking l n next in (ap (λ (u : LanesView). u.target l) same ∙ is.0, ap (λ (u : LanesView). u.written l) same ∙ is.1, own l is.1 ∙ is.2)

-- ---- a hand-over

-- What waits for an executor and what was sent to it come as far as before.
runs-stay : {world : World} {me : ℕ} {v : LanesView} {o o' : OutboxesView} {work : OutputsView} → RunsOn world me v o work → Stays o o' → RunsOn world me v o' work
runs-stay {world} {me} {v} {o} {o'} {work} r stays = record {
  own = r.own;
  away = λ l t w.
      let way = way_to o (v.target l) in
      subst (λ (k : ℕ). LaneRuns world (reached o' k l) (is_cut o' k l) (has_stopped work.stopped l) (on l work.items) (v.came l)) (same-way l)
      (subst (λ (z : Point × Bool). LaneRuns world z.0 z.1 (has_stopped work.stopped l) (on l work.items) (v.came l)) (λ i. (sym (stays.reached way l) i, sym (stays.cut way l) i)) (r.away l t w));
  others = r.others;
  there = λ l w t. let h = r.there l w t in let n = stays.count in let same = same-way l in omega (arith, h, n, same);
  hops = r.hops;
  placed = λ y within. subst (λ s. HasPlaces s (r.hops y)) (sym (stays.stops y)) (r.placed y (let n = stays.count in omega (arith, within, n)));
  among = λ l w. subst (λ (k : ℕ). AreAmong (l ∷ []) (r.hops k)) (same-way l) (r.among l w);
}
  where
    same-way : (l : Lane) → way_to o (v.target l) ≡ way_to o' (v.target l)
    same-way l = ways-same o o' (v.target l) stays.ways

pub holds-stay : {W M N S T : Type 0} {view_of : N → OwnNodesView} {stands : N → Type 0} {world : World} {c : Core W M N S T} {o : OutboxesView} → CoreHolds view_of stands world c → Stays c.outboxes o → CoreHolds view_of stands world (record c { outboxes = o })
holds-stay {c = c} {o = o} holds stays = record {
  stood = holds.stood;
  at = holds.at;
  places = holds.places;
  runs = runs-stay holds.runs stays;
  why = λ e. stays.closed (holds.why e);
  admits = admits_on o c.work holds.admits refl (let n = stays.made in omega (arith, n));
}
