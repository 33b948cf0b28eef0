-- The admissions of an executor: at most one for each item that its nodes have made.
use Rattle.std.proofs.Common.{◌≡◌, ℕ, ◌+◌, ◌*◌, ◌<◌, ◌≤◌, ◌^◌, min, Bool, true, false, ◌||◌, cond, List, [], ◌∷◌, length, refl, ap, sym, ◌∙◌, subst, ⊎_elim, arith, length-append}
use Rattle.std.specs.List.{All, sum_by, list_any}
use Rattle.std.proofs.lemmas.Bool.{false≢true, cases_Bool, both_ways}
use Rattle.std.proofs.lemmas.List.Elements.{All-nil, All-cons, All-head, All-tail}
use Rattle.std.proofs.lemmas.List.Sums.{sum_by-cons, sum_by-le, sum_by-le-sum_by, get_or-le-sum_by}
use Rattle.std.proofs.lemmas.Option.{slice_get_within, get_or_from_slice_get}
use Rattle.pl_event.specs.declared.envelopes.Envelope.{Envelope}
use Rattle.pl_event.specs.declared.envelopes.Lane.{Lane}
use Rattle.pl_event.specs.Hops.{same_lane}
use Rattle.pl_event.specs.Worlds.{World}
use Rattle.pl_event.proofs.SameLanes.{same_lane-equal, same_lane-self}
use Rattle.pl_context.specs.Stops.{StopsView, has_stopped}
use Rattle.pl_context.specs.OutputsViews.{OutputsView}
use Rattle.pl_words.specs.declared.admission.TheConstants.{MAX_ADMISSIONS}
use Rattle.pl_words.specs.declared.admission.Refused.TheVariants.{SeatSpent}
use Rattle.pl_flow.specs.Flows.{Point, after, on, IsFlow, past}
use Rattle.pl_flow.specs.LanesViews.{LanesView, SameRoutes}
use Rattle.pl_flow.specs.Makes.{LaneGrows, Makes}
use Rattle.pl_flow.proofs.FlowLemmas.{on-own, on-other}
use Rattle.pl_outbox.specs.Admitting.{FewLanes, listed_at_most, AdmitsOnce}
use Rattle.pl_outbox.specs.OutboxViews.{OutboxView, OutboxesView, IsNew, RefusedBy, admissions}

-- ---- as many items as there are on all lanes

on-more : (l : Lane) (x : Envelope) (xs : List Envelope) → length (on l xs) ≤ length (on l (x ∷ xs))
on-more l x xs = ⊎_elim
    (λ (t : same_lane l x.lane ≡ true). let e = ap (λ (zs : List Envelope). length zs) (on-own l x xs t) in omega (arith, e))
    (λ (f : same_lane l x.lane ≡ false). let e = ap (λ (zs : List Envelope). length zs) (on-other l x xs f) in omega (arith, e))
    (cases_Bool (same_lane l x.lane))

-- an item of one of these lanes is one more on them
one-more : (x : Envelope) (xs : List Envelope) (lanes : List Lane) → list_any (same_lane x.lane) lanes ≡ true
    → sum_by (λ l. length (on l xs)) lanes + 1 ≤ sum_by (λ l. length (on l (x ∷ xs))) lanes
one-more x xs [] any = absurd (false≢true any)
one-more x xs (l ∷ ls) any =
    let a = sum_by-cons (λ (m : Lane). length (on m xs)) l ls in
    let b = sum_by-cons (λ (m : Lane). length (on m (x ∷ xs))) l ls in
    ⊎_elim
    (λ (t : same_lane x.lane l ≡ true).
    let own : same_lane l x.lane ≡ true = subst (λ (m : Lane). same_lane m x.lane ≡ true) (same_lane-equal x.lane l t) (same_lane-self x.lane) in
    let here = ap (λ (zs : List Envelope). length zs) (on-own l x xs own) in
    let rest = sum_by-le-sum_by (λ (m : Lane). length (on m xs)) (λ (m : Lane). length (on m (x ∷ xs))) ls (λ m. on-more m x xs) in
    omega (arith, a, b, here, rest))
    (λ (f : same_lane x.lane l ≡ false).
    let here = on-more l x xs in
    let rest = one-more x xs ls (ap (λ (c : Bool). c || list_any (same_lane x.lane) ls) (sym f) ∙ any) in
    omega (arith, a, b, here, rest))
    (cases_Bool (same_lane x.lane l))

-- where each is of a lane that is written, and all of these are among some lanes
all-listed : (v : LanesView) (few : FewLanes v) (items : List Envelope) → ((l : Lane) → v.written l ≡ false → on l items ≡ []) → length items ≤ sum_by (λ l. length (on l items)) few.lanes
all-listed v few [] idle = omega arith
all-listed v few (x ∷ xs) idle =
    let more = one-more x xs few.lanes (few.all x.lane wrote) in
    let rest = all-listed v few xs left in
    omega (arith, more, rest)
  where
    cons-none : (ys : List Envelope) → x ∷ ys ≡ [] → ⊥
    cons-none ys e = cc

    wrote : v.written x.lane ≡ true
    wrote = ⊎_elim (λ t. t)
        (λ (f : v.written x.lane ≡ false). absurd (cons-none (on x.lane xs) (sym (on-own x.lane x xs (same_lane-self x.lane)) ∙ idle x.lane f)))
        (cases_Bool (v.written x.lane))

    left : (l : Lane) → v.written l ≡ false → on l xs ≡ []
    left l f = ⊎_elim
        (λ (t : same_lane l x.lane ≡ true). absurd (both_ways (v.written l) f (subst (λ (m : Lane). v.written m ≡ true) (sym (same_lane-equal l x.lane t)) wrote)))
        (λ (o : same_lane l x.lane ≡ false). sym (on-other l x xs o) ∙ idle l f)
        (cases_Bool (same_lane l x.lane))

-- ---- what is made of one lane

flow-within : (world : World) (p : Point) (xs : List Envelope) → IsFlow world p xs → min p.next (2 ^ 32) + length xs ≤ min (past p xs).next (2 ^ 32)
flow-within world p [] flow = omega arith
flow-within world p (x ∷ xs) flow =
    let n = flow.0.number in
    let small = flow.0.good.small in
    let rest = flow-within world (after x) xs flow.1 in omega (arith, n, small, rest)

lane-within : (world : World) (writes stopped stopped' : Bool) (from to : Point) (added : List Envelope) → LaneGrows world writes stopped stopped' from added to
    → cond stopped (2 ^ 32) (min from.next (2 ^ 32)) + length added ≤ cond stopped' (2 ^ 32) (min to.next (2 ^ 32))
lane-within world writes true true from to added g = let none = ap (λ (zs : List Envelope). length zs) (g.discards refl).0 in omega (arith, none)
lane-within world writes true false from to added g = absurd (false≢true (g.discards refl).1)
lane-within world writes false true from to added g = let f = flow-within world from added (g.flow refl) in omega (arith, f)
lane-within world writes false false from to added g =
    let f = flow-within world from added (g.flow refl) in
    let e = ap (λ (p : Point). p.next) (g.up_to refl) in omega (arith, f, e)

sums-within : (f g h : Lane → ℕ) (lanes : List Lane) → ((l : Lane) → f l + g l ≤ h l) → sum_by f lanes + sum_by g lanes ≤ sum_by h lanes
sums-within f g h [] each = omega arith
sums-within f g h (l ∷ ls) each =
    let a = sum_by-cons f l ls in
    let b = sum_by-cons g l ls in
    let c = sum_by-cons h l ls in
    let here = each l in
    let rest = sums-within f g h ls each in omega (arith, a, b, c, here, rest)

-- ---- step by step

-- nothing was admitted, and nothing is on the list
pub admits_start : (v : LanesView) (o : OutboxesView) (work : OutputsView) → FewLanes v → admissions o ≡ 0 → work.items ≡ [] → AdmitsOnce v o work
admits_start v o work few none empty = record {
  written = few;
  once = let n = ap (λ (zs : List Envelope). length zs) empty in omega (arith, none, n);
}

-- as many admissions more, at most, as there are items less on the list
pub admits_on : {v : LanesView} {o : OutboxesView} {before : OutputsView} (o' : OutboxesView) (mid : OutputsView) → AdmitsOnce v o before → mid.stopped ≡ before.stopped
    → admissions o' + length mid.items ≤ admissions o + length before.items → AdmitsOnce v o' mid
admits_on {v} {o} {before} o' mid a stops few = record {
  written = a.written;
  once = subst (λ (s : StopsView). admissions o' + length mid.items ≤ sum_by (listed_at_most v (record mid { stopped = s })) a.written.lanes) (sym stops)
      (let h = a.once in omega (arith, h, few));
}

-- the front of the list is taken, with at most one
pub admits_front : {v : LanesView} {o : OutboxesView} {before : OutputsView} {x : Envelope} (o' : OutboxesView) (mid : OutputsView) → AdmitsOnce v o before → before.items ≡ x ∷ mid.items → mid.stopped ≡ before.stopped
    → admissions o' ≤ admissions o + 1 → AdmitsOnce v o' mid
admits_front {v} {o} {before} {x} o' mid a front stops one =
    let n = ap (λ (zs : List Envelope). length zs) front in
    admits_on o' mid a stops (omega (arith, n, one))

-- nodes have put more on it
pub admits_more : {world : World} {v : LanesView} {o : OutboxesView} {mid after : OutputsView} (v' : LanesView) → AdmitsOnce v o mid → Makes world v.written v.came v'.came mid after → SameRoutes v v' → AdmitsOnce v' o after
admits_more {world} {v} {o} {mid} {after} v' a m same = record {
  written = record { lanes = a.written.lanes; few = a.written.few; all = λ l w. a.written.all l (ap (λ (u : LanesView). u.written l) (sym same) ∙ w) };
  once =
      let each = sums-within (listed_at_most v mid) (λ (l : Lane). length (on l m.added)) (listed_at_most v' after) a.written.lanes
      (λ l. lane-within world (v.written l) (has_stopped mid.stopped l) (has_stopped after.stopped l) (v.came l) (v'.came l) (on l m.added) (m.lanes l)) in
      let more = all-listed v a.written m.added (λ l idle. (m.lanes l).idle idle) in
      let n = ap (λ (zs : List Envelope). length zs) m.items ∙ length-append mid.items m.added in
      let h = a.once in omega (arith, each, more, n, h);
}

-- ---- no seat is spent

least : (ls : List Lane) (v : LanesView) (work : OutputsView) → sum_by (listed_at_most v work) ls ≤ length ls * (2 ^ 32)
least ls v work = sum_by-le (listed_at_most v work) (2 ^ 32) ls (each ls)
  where
    within : (stopped : Bool) (n : ℕ) → cond stopped (2 ^ 32) (min n (2 ^ 32)) ≤ 2 ^ 32
    within true n = omega arith
    within false n = omega arith

    each : (ls : List Lane) → All (λ l. listed_at_most v work l ≤ 2 ^ 32) ls
    each [] = All-nil (λ l. listed_at_most v work l ≤ 2 ^ 32)
    each (l ∷ ls) = All-cons (λ l. listed_at_most v work l ≤ 2 ^ 32) l ls (within (has_stopped work.stopped l) (v.came l).next) (each ls)

pub never-spent : {v : LanesView} {o o' : OutboxesView} {work : OutputsView} {way : ℕ} → AdmitsOnce v o work → RefusedBy o way SeatSpent o' → ⊥
never-spent {v} {o} {o'} {work} {way} a r =
    let b = r.before in
    let here = get_or-le-sum_by (λ (c : OutboxView). c.seat.made) o.outboxes way b (slice_get_within o.outboxes way b r.was) in
    let is = ap (λ (c : OutboxView). c.seat.made) (get_or_from_slice_get o.outboxes way b b r.was) in
    let spent = r.seat.1 in
    let once = a.once in
    let all = least a.written.lanes v work in
    let few = times (length a.written.lanes) a.written.few in omega (arith, here, is, spent, once, all, few)
  where
    times : (n : ℕ) → n < 2 ^ 13 → n * (2 ^ 32) < MAX_ADMISSIONS
    times n few = omega (arith, few)

-- ---- new outboxes

pub new_admissions : (os : List OutboxView) → All IsNew os → sum_by (λ b. b.seat.made) os ≡ 0
new_admissions [] new = refl
new_admissions (b ∷ os) new =
    let a = sum_by-cons (λ (c : OutboxView). c.seat.made) b os in
    let here = (All-head IsNew b os new).made in
    let rest = new_admissions os (All-tail IsNew b os new) in omega (arith, a, here, rest)
