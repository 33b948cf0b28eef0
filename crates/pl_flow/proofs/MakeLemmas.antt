-- What nodes put on a list, lane by lane.
use Rattle.std.proofs.Common.{◌≡◌, Bool, true, false, ◌||◌, ◌&&◌, List, [], ◌∷◌, ◌++◌, refl, ap, sym, ◌∙◌, subst, ◌↔◌, ⊎_elim, append-nil, append_assoc}
use Rattle.std.specs.List.{list_any}
use Rattle.std.proofs.Math.Bool.{or-false, and-true}
use Rattle.std.proofs.lemmas.Bool.{cond-true, cond-false, cases_Bool, both_ways, or_parts, or_left, or_right}
use Rattle.std.proofs.lemmas.List.Folds.{list_any-append}
use Rattle.pl_event.specs.declared.envelopes.Envelope.{Envelope}
use Rattle.pl_event.specs.declared.envelopes.Kind.{Kind}
use Rattle.pl_event.specs.declared.envelopes.Kind.TheVariants.{Data, Flags}
use Rattle.pl_event.specs.declared.envelopes.Lane.{Lane}
use Rattle.pl_event.specs.Hops.{same_hop, same_kind, same_lane}
use Rattle.pl_event.specs.Worlds.{World}
use Rattle.pl_event.proofs.SameLanes.{same_lane-equal, same_lane-self}
use Rattle.pl_context.specs.declared.added.Added.{Added}
use Rattle.pl_context.specs.declared.added.Added.TheVariants.{Last, Refused, Discarded}
use Rattle.pl_context.specs.Stops.{StopsView, has_stopped, with_stop}
use Rattle.pl_context.specs.OutputsViews.{OutputsView, Puts, PutsAll, added_items, stopped_after, failure_of, stand_in}
use Rattle.pl_flow.specs.Flows.{Point, after, on, IsNext, IsFlow, past}
use Rattle.pl_flow.specs.Makes.{made_one, made_all, AreNext, LaneGrows, Makes}
use Rattle.pl_flow.proofs.FlowLemmas.{on-append, past-append, IsFlow-append, on-own, on-other}
use Rattle.pl_flow.proofs.ItemLemmas.{stand_in-good, stand_in-data, stand_in-flags}

-- ---- lanes that stop

stop-kinds : (s : StopsView) (lane l : Lane) (k j : Kind)
    → has_stopped (with_stop s (record lane { kind = k })) (record l { kind = j }) ≡ (has_stopped s (record l { kind = j }) || (same_hop l lane && same_kind j k))
stop-kinds s lane l Data Data = list_any-append (same_hop l) s.lanes (record lane { kind = Data } ∷ []) ∙ ap (λ b. list_any (same_hop l) s.lanes || b) (or-false (same_hop l lane) ∙ sym (and-true (same_hop l lane)))
stop-kinds s lane l Data Flags = sym (ap (λ b. list_any (same_hop l) s.flag_lanes || b) (and-none (same_hop l lane)) ∙ or-false (list_any (same_hop l) s.flag_lanes))
  where
    and-none : (a : Bool) → (a && false) ≡ false
    and-none true = refl
    and-none false = refl
stop-kinds s lane l Flags Data = sym (ap (λ b. list_any (same_hop l) s.lanes || b) (and-none (same_hop l lane)) ∙ or-false (list_any (same_hop l) s.lanes))
  where
    and-none : (a : Bool) → (a && false) ≡ false
    and-none true = refl
    and-none false = refl
stop-kinds s lane l Flags Flags = list_any-append (same_hop l) s.flag_lanes (record lane { kind = Flags } ∷ []) ∙ ap (λ b. list_any (same_hop l) s.flag_lanes || b) (or-false (same_hop l lane) ∙ sym (and-true (same_hop l lane)))

-- one lane more has stopped, and no other
pub stopped-with : (s : StopsView) (lane l : Lane) → has_stopped (with_stop s lane) l ≡ (has_stopped s l || same_lane l lane)
unfolding same_lane
stopped-with s lane l = stop-kinds s lane l lane.kind l.kind

-- a lane that has not stopped now had not before
pub stopped-more : (answer : Added) (s : StopsView) (lane l : Lane) → has_stopped (stopped_after answer s lane) l ≡ false → has_stopped s l ≡ false
stopped-more Last s lane l e = e
stopped-more Refused s lane l e = (or_parts (has_stopped s l) (same_lane l lane) (sym (stopped-with s lane l) ∙ e)).0
stopped-more Discarded s lane l e = e

-- one that has stopped stays so
pub stays-stopped : (answer : Added) (s : StopsView) (lane l : Lane) → has_stopped s l ≡ true → has_stopped (stopped_after answer s lane) l ≡ true
stays-stopped Last s lane l e = e
stays-stopped Refused s lane l e = stopped-with s lane l ∙ or_left (has_stopped s l) (same_lane l lane) e
stays-stopped Discarded s lane l e = e

pub stops-here : (s : StopsView) (lane : Lane) → has_stopped (with_stop s lane) lane ≡ true
stops-here s lane = stopped-with s lane lane ∙ or_right (has_stopped s lane) (same_lane lane lane) (same_lane-self lane)

-- ---- one envelope is put

-- what an answer adds is of the envelope's lane
pub added-other : (answer : Added) (x : Envelope) (l : Lane) → same_lane l x.lane ≡ false → on l (added_items answer x) ≡ []
added-other Last x l f = on-other l x [] f
added-other Refused x l f = by-kind x.lane.kind refl
  where
    by-kind : (k : Kind) → x.lane.kind ≡ k → on l (stand_in x) ≡ []
    by-kind Data k = ap (λ zs. on l zs) (stand_in-data x k) ∙ on-other l (record x { item = failure_of x.item }) [] f
    by-kind Flags k = ap (λ zs. on l zs) (stand_in-flags x k)
added-other Discarded x l f = refl

-- An envelope comes on a list, and each lane grows. It is the next one there, unless its lane has stopped.
module _ (world : World) (writes : Lane → Bool) (from : Lane → Point) (b a : StopsView) (x : Envelope) (own : writes x.lane ≡ true) (next : has_stopped b x.lane ≡ false → IsNext world (from x.lane) x) where
  grows-own : (answer : Added) → a ≡ stopped_after answer b x.lane → (answer ≡ Discarded) ↔ (has_stopped b x.lane ≡ true)
      → LaneGrows world (writes x.lane) (has_stopped b x.lane) (has_stopped a x.lane) (from x.lane) (on x.lane (added_items answer x)) (after x)
  grows-own Last stops iff =
      let one = on-own x.lane x [] (same_lane-self x.lane) in record {
        idle = λ f. absurd (both_ways (writes x.lane) f own);
        discards = λ t. let no : Last ≡ Discarded = iff.1 t in cc;
        flow = λ f. subst (λ zs. IsFlow world (from x.lane) zs) (sym one) (next f, tt);
        up_to = λ f. ap (λ zs. past (from x.lane) zs) one;
      }
  grows-own Refused stops iff = by-kind x.lane.kind refl
    where
      here : has_stopped a x.lane ≡ true
      here = ap (λ (s : StopsView). has_stopped s x.lane) stops ∙ stops-here b x.lane

      by-kind : (k : Kind) → x.lane.kind ≡ k → LaneGrows world (writes x.lane) (has_stopped b x.lane) (has_stopped a x.lane) (from x.lane) (on x.lane (stand_in x)) (after x)
      by-kind Data k =
          let one = ap (λ zs. on x.lane zs) (stand_in-data x k) ∙ on-own x.lane (record x { item = failure_of x.item }) [] (same_lane-self x.lane) in record {
            idle = λ f. absurd (both_ways (writes x.lane) f own);
            discards = λ t. let no : Refused ≡ Discarded = iff.1 t in cc;
            flow = λ f. let n = next f in subst (λ zs. IsFlow world (from x.lane) zs) (sym one) (record { over = n.over; number = n.number; good = stand_in-good world x k n.good }, tt);
            up_to = λ f. absurd (both_ways (has_stopped a x.lane) f here);
          }
      by-kind Flags k =
          let none = ap (λ zs. on x.lane zs) (stand_in-flags x k) in record {
            idle = λ f. none;
            discards = λ t. (none, here);
            flow = λ f. subst (λ zs. IsFlow world (from x.lane) zs) (sym none) tt;
            up_to = λ f. absurd (both_ways (has_stopped a x.lane) f here);
          }
  grows-own Discarded stops iff =
      let here : has_stopped a x.lane ≡ true = ap (λ (s : StopsView). has_stopped s x.lane) stops ∙ iff.0 refl in record {
        idle = λ f. refl;
        discards = λ t. (refl, here);
        flow = λ f. tt;
        up_to = λ f. absurd (both_ways (has_stopped a x.lane) f here);
      }

  pub one-grows : (answer : Added) → a ≡ stopped_after answer b x.lane → (answer ≡ Discarded) ↔ (has_stopped b x.lane ≡ true)
      → (l : Lane) → LaneGrows world (writes l) (has_stopped b l) (has_stopped a l) (from l) (on l (added_items answer x)) (made_one from x l)
  one-grows answer stops iff l = ⊎_elim
      (λ (t : same_lane l x.lane ≡ true).
      let m : x.lane ≡ l = sym (same_lane-equal l x.lane t) in
      let p : after x ≡ made_one from x l = sym (cond-true (same_lane l x.lane) _ _ t) in
      subst (λ (y : Lane × Point). LaneGrows world (writes y.0) (has_stopped b y.0) (has_stopped a y.0) (from y.0) (on y.0 (added_items answer x)) y.1) (λ i. (m i, p i)) (grows-own answer stops iff))
      (λ (f : same_lane l x.lane ≡ false).
      let none = added-other answer x l f in record {
        idle = λ w. none;
        discards = λ t. (none, ap (λ (s : StopsView). has_stopped s l) stops ∙ stays-stopped answer b x.lane l t);
        flow = λ g. subst (λ zs. IsFlow world (from l) zs) (sym none) tt;
        up_to = λ g. ap (λ zs. past (from l) zs) none ∙ sym (cond-false (same_lane l x.lane) (after x) (from l) f);
      })
      (cases_Bool (same_lane l x.lane))

pub one-put : (world : World) (writes : Lane → Bool) (from : Lane → Point) (b a : OutputsView) (x : Envelope) → writes x.lane ≡ true → IsNext world (from x.lane) x → (answer : Added) → Puts b x answer a
    → Makes world writes from (made_one from x) b a
one-put world writes from b a x own next answer puts = record {
  added = added_items answer x;
  items = puts.items;
  lanes = one-grows world writes from b.stopped a.stopped x own (λ f. next) answer puts.stopped puts.discarded;
}

-- ---- one after another

grows-then : (world : World) (writes b m a : Bool) (from mid to : Point) (xs ys : List Envelope) → LaneGrows world writes b m from xs mid → LaneGrows world writes m a mid ys to → LaneGrows world writes b a from (xs ++ ys) to
grows-then world writes b m a from mid to xs ys g h = record {
  idle = λ w. ap (λ zs. zs ++ ys) (g.idle w) ∙ h.idle w;
  discards = λ t. let d = g.discards t in let e = h.discards d.1 in (ap (λ zs. zs ++ ys) d.0 ∙ e.0, e.1);
  flow = λ f. ⊎_elim
      (λ (t : m ≡ true). subst (λ zs. IsFlow world from zs) (sym (ap (λ zs. xs ++ zs) (h.discards t).0 ∙ append-nil xs)) (g.flow f))
      (λ (n : m ≡ false). IsFlow-append world from xs ys (g.flow f) (subst (λ p. IsFlow world p ys) (sym (g.up_to n)) (h.flow n)))
      (cases_Bool m);
  up_to = λ e. ⊎_elim
      (λ (t : m ≡ true). absurd (both_ways a e (h.discards t).1))
      (λ (n : m ≡ false). past-append from xs ys ∙ ap (λ p. past p ys) (g.up_to n) ∙ h.up_to e)
      (cases_Bool m);
}

pub makes-then : (world : World) (writes : Lane → Bool) (from mid to : Lane → Point) (b m a : OutputsView) → Makes world writes from mid b m → Makes world writes mid to m a → Makes world writes from to b a
makes-then world writes from mid to b m a g h = record {
  added = g.added ++ h.added;
  items = h.items ∙ ap (λ zs. zs ++ h.added) g.items ∙ append_assoc b.items g.added h.added;
  lanes = λ l. subst (λ zs. LaneGrows world (writes l) (has_stopped b.stopped l) (has_stopped a.stopped l) (from l) zs (to l)) (sym (on-append l g.added h.added))
      (grows-then world (writes l) (has_stopped b.stopped l) (has_stopped m.stopped l) (has_stopped a.stopped l) (from l) (mid l) (to l) (on l g.added) (on l h.added) (g.lanes l) (h.lanes l));
}

pub makes-none : (world : World) (writes : Lane → Bool) (from : Lane → Point) (b a : OutputsView) → a.items ≡ b.items → a.stopped ≡ b.stopped → Makes world writes from from b a
makes-none world writes from b a items stops = record {
  added = [];
  items = items ∙ sym (append-nil b.items);
  lanes = λ l. record { idle = λ w. refl; discards = λ t. (refl, ap (λ (s : StopsView). has_stopped s l) stops ∙ t); flow = λ f. tt; up_to = λ f. refl };
}

-- Nodes that are among others, which put nothing on the list: what these make, all of them make.
pub makes-among : (world : World) (writes all : Lane → Bool) (from to all_from all_to : Lane → Point) (b a : OutputsView)
    → ((l : Lane) → writes l ≡ true → (all l ≡ true) × (all_from l ≡ from l) × (all_to l ≡ to l)) → ((l : Lane) → writes l ≡ false → all_from l ≡ all_to l)
    → Makes world writes from to b a → Makes world all all_from all_to b a
makes-among world writes all from to all_from all_to b a own other m = record {
  added = m.added;
  items = m.items;
  lanes = λ l. ⊎_elim (λ (t : writes l ≡ true). mine l t (own l t)) (λ (f : writes l ≡ false). others l f) (cases_Bool (writes l));
}
  where
    mine : (l : Lane) → writes l ≡ true → (all l ≡ true) × (all_from l ≡ from l) × (all_to l ≡ to l)
        → LaneGrows world (all l) (has_stopped b.stopped l) (has_stopped a.stopped l) (all_from l) (on l m.added) (all_to l)
    mine l t same = subst (λ (y : Bool × Point × Point). LaneGrows world y.0 (has_stopped b.stopped l) (has_stopped a.stopped l) y.1 (on l m.added) y.2)
        (λ i. ((t ∙ sym same.0) i, sym same.1 i, sym same.2 i)) (m.lanes l)

    others : (l : Lane) → writes l ≡ false → LaneGrows world (all l) (has_stopped b.stopped l) (has_stopped a.stopped l) (all_from l) (on l m.added) (all_to l)
    others l f =
        let none = (m.lanes l).idle f in record {
          idle = λ w. none;
          discards = (m.lanes l).discards;
          flow = λ s. subst (λ zs. IsFlow world (all_from l) zs) (sym none) tt;
          up_to = λ s. ap (λ zs. past (all_from l) zs) none ∙ other l f;
        }

-- all that nodes give their lanes is put
pub all-put : (world : World) (writes : Lane → Bool) (xs : List Envelope) (from : Lane → Point) (b a : OutputsView) → AreNext world writes from xs → PutsAll b xs a → Makes world writes from (made_all from xs) b a
all-put world writes [] from b a are puts = makes-none world writes from b a puts.0 puts.1
all-put world writes (x ∷ xs) from b a are puts =
    makes-then world writes from (made_one from x) (made_all from (x ∷ xs)) b puts.1 a (one-put world writes from b puts.1 x are.0 are.1 puts.0 puts.2)
    (all-put world writes xs (made_one from x) puts.1 a are.2 puts.3)
