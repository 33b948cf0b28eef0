-- What is on its way, step by step.
use Rattle.std.proofs.Common.{◌≡◌, ◌≢◌, ℕ, ◌+◌, ◌<◌, Bool, true, false, ◌==◌, List, [], ◌∷◌, ◌++◌, length, ap, sym, subst, ◌∙◌, ⊎_elim}
use Rattle.std.proofs.lemmas.Bool.{and_parts, cond-true, cond-false, cases_Bool, both_ways, eqb-true, cases_eq}
use Rattle.pl_event.specs.declared.envelopes.Envelope.{Envelope}
use Rattle.pl_event.specs.declared.envelopes.Lane.{Lane}
use Rattle.pl_event.specs.Hops.{same_lane}
use Rattle.pl_event.specs.Worlds.{World, closes}
use Rattle.pl_event.proofs.Lists.{cons-none}
use Rattle.pl_event.proofs.SameLanes.{same_lane-equal, same_lane-self}
use Rattle.pl_context.specs.Stops.{StopsView, has_stopped}
use Rattle.pl_context.specs.OutputsViews.{OutputsView}
use Rattle.pl_context.specs.WaitingViews.{Entry}
use Rattle.pl_flow.specs.Flows.{Point, point, after, on, IsGood, IsNext}
use Rattle.pl_flow.proofs.FlowLemmas.{on-append, on-own, on-other}
use Rattle.pl_flow.specs.LanesViews.{taken_with}
use Rattle.pl_flow.specs.Makes.{Makes}
use Rattle.pl_net.specs.NodesViews.{NodesView, written_by, NodesPut, NodesMake}
use Rattle.pl_net.specs.Nets.{StationView, queue_at, stops_at, envelopes, LaneStands, NetRuns}
use Rattle.pl_net.proofs.LaneSteps.{lane-puts, lane-next, lane-called}

-- nodes whose lanes go the ways that they went, with these numbers of what was taken, and up to these points
abbrev pub moved : NodesView → NodesView → (Lane → ℕ) → (Lane → Point) → NodesView
moved v v' taken came = record v' { origin = v.origin; lanes = record v.lanes { taken = taken; came = came } }

module _ (world : World) (v : NodesView) (x : ℕ) (stations : List StationView) (backlogs : ℕ → List (Entry (Unit {0}))) where
  -- ---- a backlog

  -- Of one backlog only a lane that is written there has changed: of any other lane nothing waits there or elsewhere that did not.
  pub waits-still : (work : OutputsView) → NetRuns world v x stations backlogs work → (o : ℕ) (k : Lane) → written_by v o k ≡ true → (changed : ℕ → List (Entry (Unit {0}))) → ((y : ℕ) → y ≢ o → changed y ≡ backlogs y)
      → ((y : ℕ) (l : Lane) → same_lane l k ≡ false → on l (envelopes (changed y)) ≡ on l (envelopes (backlogs y))) → (y : ℕ) (l : Lane) → written_by v y l ≡ false → on l (envelopes (changed y)) ≡ []
  waits-still work runs o k here changed there others y l n = ⊎_elim
      (λ (m : same_lane l k ≡ true). ⊎_elim
      (λ (s : y ≡ o). absurd (both_ways (written_by v y l) n (ap (λ z. written_by v y z) (same_lane-equal l k m) ∙ ap (λ z. written_by v z k) s ∙ here)))
      (λ (s : y ≡ o → ⊥). ap (λ zs. on l (envelopes zs)) (there y s) ∙ runs.waits y l n)
      (cases_eq y o))
      (λ (f : same_lane l k ≡ false). others y l f ∙ runs.waits y l n)
      (cases_Bool (same_lane l k))

  -- ---- what nodes put on the list

  -- Another list, which another executor may run, and other numbers and points: all else is as it was.
  pub relisted : (v' : NodesView) (taken : Lane → ℕ) (came : Lane → Point) (y : ℕ) (before after : OutputsView) → NetRuns world v x stations backlogs before
      → ((l : Lane) → v.lanes.written l ≡ true → (over : Bool) × LaneStands world (point (taken l) over) (on l (queue_at stations (v.lanes.target l))) (on l (envelopes (backlogs (v.origin l)))) (has_stopped (stops_at stations (v.origin l) (v.lanes.target l)) l) (has_stopped after.stopped l) (on l after.items) (came l))
      → ((l : Lane) → written_by v y l ≡ false → on l after.items ≡ [])
      → NetRuns world (moved v v' taken came) y stations backlogs after
  relisted v' taken came y before after runs lanes listed =
      record { lanes = lanes; direct = runs.direct; listed = listed; queued = runs.queued; waits = runs.waits; entries = runs.entries; holds = runs.holds; targets = runs.targets; there = runs.there; hops = runs.hops; placed = runs.placed; among = runs.among }

  -- what they have put follows
  pub nets-more : (v' : NodesView) (came : Lane → Point) (before after : OutputsView) → NetRuns world v x stations backlogs before → Makes world (written_by v x) v.lanes.came came before after → NetRuns world (moved v v' v.lanes.taken came) x stations backlogs after
  nets-more v' came before after runs makes = relisted v' v.lanes.taken came x before after runs
      (λ l w.
      let s = runs.lanes l w in (
        s.0,
        subst (λ zs. LaneStands world (point (v.lanes.taken l) s.0) (on l (queue_at stations (v.lanes.target l))) (on l (envelopes (backlogs (v.origin l)))) (has_stopped (stops_at stations (v.origin l) (v.lanes.target l)) l) (has_stopped after.stopped l) zs (came l)) (sym (more l))
            (lane-puts world (written_by v x l) (has_stopped (stops_at stations (v.origin l) (v.lanes.target l)) l) (has_stopped before.stopped l) (has_stopped after.stopped l) (point (v.lanes.taken l) s.0) (v.lanes.came l) (came l)
            (on l (queue_at stations (v.lanes.target l))) (on l (envelopes (backlogs (v.origin l)))) (on l before.items) (on l makes.added) s.1 (makes.lanes l)),
      ))
      (λ l n. more l ∙ ap (λ zs. zs ++ on l makes.added) (runs.listed l n) ∙ (makes.lanes l).idle n)
    where
      more : (l : Lane) → on l after.items ≡ on l before.items ++ on l makes.added
      more l = ap (λ zs. on l zs) makes.items ∙ on-append l before.items makes.added

  -- ---- the front of the list

  module _ (before mid : OutputsView) (e : Envelope) (runs : NetRuns world v x stations backlogs before) (front : before.items ≡ e ∷ mid.items) (stops : mid.stopped ≡ before.stopped) where
    pub there-on : (l : Lane) → same_lane l e.lane ≡ true → on l before.items ≡ e ∷ on l mid.items
    there-on l t = ap (λ zs. on l zs) front ∙ on-own l e mid.items t

    pub same-on : (l : Lane) → same_lane l e.lane ≡ false → on l before.items ≡ on l mid.items
    same-on l t = ap (λ zs. on l zs) front ∙ on-other l e mid.items t

    -- it is of a lane that is written here
    pub front-here : written_by v x e.lane ≡ true
    front-here = ⊎_elim (λ t. t) (λ f. absurd (cons-none e (on e.lane mid.items) (sym (there-on e.lane (same_lane-self e.lane)) ∙ runs.listed e.lane f))) (cases_Bool (written_by v x e.lane))

    pub front-written : v.lanes.written e.lane ≡ true
    front-written = (and_parts (v.lanes.written e.lane) (v.origin e.lane == x) front-here).0

    pub front-origin : v.origin e.lane ≡ x
    front-origin = eqb-true (v.origin e.lane) x ((and_parts (v.lanes.written e.lane) (v.origin e.lane == x) front-here).1)

    pub front-there : v.lanes.target e.lane < length stations
    front-there = (runs.there e.lane front-written).1

    pub listed-left : (l : Lane) → written_by v x l ≡ false → on l mid.items ≡ []
    listed-left l n = ⊎_elim
        (λ (t : same_lane l e.lane ≡ true). absurd (both_ways (written_by v x l) n (subst (λ m. written_by v x m ≡ true) (sym (same_lane-equal l e.lane t)) front-here)))
        (λ (f : same_lane l e.lane ≡ false). sym (same-on l f) ∙ runs.listed l n)
        (cases_Bool (same_lane l e.lane))

    -- ---- it is for the executor that runs: a direct call

    module _ (here : v.lanes.target e.lane ≡ x) where
      abbrev over : Bool
      over = (runs.lanes e.lane front-written).0

      alone : LaneStands world (point (v.lanes.taken e.lane) over) [] [] false (has_stopped before.stopped e.lane) (e ∷ on e.lane mid.items) (v.lanes.came e.lane)
      alone =
          let d = runs.direct e.lane front-written (front-origin ∙ sym here) in
          subst (λ (y : List Envelope × List Envelope × Bool × List Envelope). LaneStands world (point (v.lanes.taken e.lane) over) y.0 y.1 y.2 (has_stopped before.stopped e.lane) y.3 (v.lanes.came e.lane))
          (λ i. (d.0 i, d.1 i, d.2 i, there-on e.lane (same_lane-self e.lane) i)) (runs.lanes e.lane front-written).1

      call-next : IsNext world (point (v.lanes.taken e.lane) over) e
      call-next = lane-next world (has_stopped before.stopped e.lane) (point (v.lanes.taken e.lane) over) (v.lanes.came e.lane) e (on e.lane mid.items) alone

      pub call-number : e.number ≡ v.lanes.taken e.lane
      call-number = call-next.number

      pub call-good : IsGood world e
      call-good = call-next.good

      called-here : LaneStands world (point (taken_with v.lanes.taken e e.lane) (closes e.item)) (on e.lane (queue_at stations (v.lanes.target e.lane))) (on e.lane (envelopes (backlogs (v.origin e.lane))))
          (has_stopped (stops_at stations (v.origin e.lane) (v.lanes.target e.lane)) e.lane) (has_stopped mid.stopped e.lane) (on e.lane mid.items) (v.lanes.came e.lane)
      called-here =
          let d = runs.direct e.lane front-written (front-origin ∙ sym here) in
          subst (λ (y : List Envelope × List Envelope × Bool × ℕ × StopsView). LaneStands world (point y.3 (closes e.item)) y.0 y.1 y.2 (has_stopped y.4 e.lane) (on e.lane mid.items) (v.lanes.came e.lane))
          (λ i. (sym d.0 i, sym d.1 i, sym d.2 i, sym (cond-true (same_lane e.lane e.lane) (e.number + 1) (v.lanes.taken e.lane) (same_lane-self e.lane)) i, sym stops i))
          (lane-called world false (has_stopped before.stopped e.lane) (point (v.lanes.taken e.lane) over) (v.lanes.came e.lane) e (on e.lane mid.items) alone)

      pub called : NetRuns world (record v { lanes = record v.lanes { taken = taken_with v.lanes.taken e } }) x stations backlogs mid
      called = relisted v (taken_with v.lanes.taken e) v.lanes.came x before mid runs
          (λ l w. ⊎_elim
          (λ (t : same_lane l e.lane ≡ true).
          subst (λ (m : Lane). (o : Bool) × LaneStands world (point (taken_with v.lanes.taken e m) o) (on m (queue_at stations (v.lanes.target m))) (on m (envelopes (backlogs (v.origin m)))) (has_stopped (stops_at stations (v.origin m) (v.lanes.target m)) m) (has_stopped mid.stopped m) (on m mid.items) (v.lanes.came m))
          (sym (same_lane-equal l e.lane t)) (closes e.item, called-here))
          (λ (f : same_lane l e.lane ≡ false).
          let s = runs.lanes l w in (
            s.0,
            subst (λ (y : ℕ × StopsView × List Envelope). LaneStands world (point y.0 s.0) (on l (queue_at stations (v.lanes.target l))) (on l (envelopes (backlogs (v.origin l)))) (has_stopped (stops_at stations (v.origin l) (v.lanes.target l)) l) (has_stopped y.1 l) y.2 (v.lanes.came l))
                (λ i. (sym (cond-false (same_lane l e.lane) (e.number + 1) (v.lanes.taken l) f) i, sym stops i, same-on l f i)) s.1,
          ))
          (cases_Bool (same_lane l e.lane)))
          listed-left

-- What nodes have put follows. This many of each lane were taken.
pub nets-put : {world : World} {v v' : NodesView} {x z : ℕ} {stations : List StationView} {backlogs : ℕ → List (Entry (Unit {0}))} {before after : OutputsView} {taken : Lane → ℕ}
    → NetRuns world (record v { lanes = record v.lanes { taken = taken } }) x stations backlogs before → NodesPut v z before v' after → v'.lanes.taken ≡ taken → NodesMake world v x before v' after → NetRuns world v' x stations backlogs after
nets-put {world} {v} {v'} {x} {z} {stations} {backlogs} {before} {after} {taken} runs puts counts makes =
    subst (λ (u : NodesView). NetRuns world u x stations backlogs after)
    (sym (λ i. record v' { origin = puts.origin i; lanes = (puts.routes ∙ (λ j. record v.lanes { taken = counts j; came = v'.lanes.came })) i }))
    (nets-more world (record v { lanes = record v.lanes { taken = taken } }) x stations backlogs v' v'.lanes.came before after runs makes)
