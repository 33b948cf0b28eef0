-- An executor of the tests before its first turn.
use Rattle.std.proofs.Common.{arith, ◌≡◌, ◌≢◌, ◌-◌, ◌^◌, ◌<◌, ◌==◌, ◌||◌, ℕ, zero, suc, Bool, true, false, not, List, [], ◌∷◌, length, map, get_or, slice_get, Option, Some, None, refl, ap, sym, ◌∙◌, subst, ⊎_elim}
use Rattle.std.specs.Prelude.{All}
use Rattle.std.specs.Option.{option_map, option_map_or}
use Rattle.std.proofs.lemmas.Bool.{cond-true, cond-false, cases_Bool, both_ways, and_parts, and_from, eq-eqb}
use Rattle.std.proofs.Math.Bool.{or-true}
use Rattle.std.proofs.lemmas.Option.{none-some, same_Some, slice_get-map, slice_get_within}
use Rattle.pl_event.specs.declared.envelopes.Lane.{Lane}
use Rattle.pl_event.specs.Hops.{same_lane}
use Rattle.pl_event.specs.Worlds.{World}
use Rattle.pl_event.proofs.SameLanes.{same_lane-equal, same_lane-self}
use Rattle.pl_context.specs.Backlogs.{BacklogView}
use Rattle.pl_context.specs.declared.waiting.Stamp.{Stamp}
use Rattle.pl_context.specs.OutputsViews.{OutputsView}
use Rattle.pl_context.specs.Stops.{AreAmong, StopsView, HasPlaces, no_stops}
use Rattle.pl_context.specs.WaitingViews.{stops_for}
use Rattle.pl_queue.specs.Ends.{MailboxEnds}
use Rattle.pl_queue.specs.Views.{fresh_sends, fresh_take_counts}
use Rattle.pl_queue.specs.Rule.{Each}
use Rattle.pl_words.specs.Names.{Name}
use Rattle.pl_words.specs.Admissions.{AdmittedView, new_send_seat}
use Rattle.pl_flow.specs.Flows.{point, nowhere, on, past}
use Rattle.pl_outbox.specs.declared.inbox.Inbox.{Inbox}
use Rattle.pl_outbox.specs.Admitting.{FewLanes}
use Rattle.pl_outbox.specs.Sent.{sent_at}
use Rattle.pl_outbox.specs.OutboxViews.{OutboxView, OutboxesView, waits_for, sent_to, way_to, reached}
use Rattle.pl_threads.specs.Running.{RunsOn, IsTaking}
use Rattle.pl_threads.proofs.RunLemmas.{runs-start}
use Rattle.pl_threads_tests.specs.declared.nodes.Node.{Node}
use Rattle.pl_threads_tests.specs.declared.nodes.Outlet.{Outlet}
use Rattle.pl_threads_tests.specs.declared.places.Own.{Own}
use Rattle.pl_threads_tests.specs.declared.places.Place.{Place}
use Rattle.pl_threads_tests.specs.declared.places.Places.{Places}
use Rattle.pl_threads_tests.specs.declared.places.Way.{Way}
use Rattle.pl_threads_tests.specs.Nodes.{IsFresh, NodeStands, came, lane_to, makes, node_view, outlets_of, target_of, writes}
use Rattle.pl_threads_tests.specs.Openings.{ArePlaces, HasLane, IsOpened, IsOwn, IsWay, makes_for}
use Rattle.pl_threads_tests.proofs.NodeLemmas.{makes-lane}

-- where flags are made for an executor, there is a way to it, on which none was sent
abbrev pub HasWay : Outlet → List OutboxView → Type 0
HasWay o outboxes = 0 < o.count → (b : OutboxView) × (slice_get outboxes o.target ≡ Some b) × (b.sends ≡ fresh_sends (lane_to o.target ∷ []))

-- the lane to an executor enters it
target-lane : (executor : ℕ) → target_of (lane_to executor) ≡ executor
target-lane executor = cond-true _ _ _ (and_from _ _ (eq-eqb executor executor refl) refl)

-- one place is enough for one lane
pub one-place : (l : Lane) → HasPlaces (no_stops 1) (l ∷ [])
one-place l = record { hops = l ∷ []; few = omega arith; stopped = λ m e. absurd (both_ways false refl e); stopped_flags = λ m e. absurd (both_ways false refl e); own = λ m e. e }

pub two-places : (l m : Lane) → HasPlaces (no_stops 2) (l ∷ m ∷ [])
two-places l m = record { hops = l ∷ m ∷ []; few = omega arith; stopped = λ n e. absurd (both_ways false refl e); stopped_flags = λ n e. absurd (both_ways false refl e); own = λ n e. e }

-- the nodes write two lanes at most
pub few-lanes : (n : Node) → FewLanes (node_view n).lanes
few-lanes n = record {
  lanes = outlets_of n;
  few = omega arith;
  all = λ l w. ⊎_elim
      (λ (t : makes n.first l ≡ true). ap (λ (b : Bool). b || (same_lane l (lane_to n.second.target) || false)) (and_parts _ _ t).1)
      (λ (e : makes n.first l ≡ false).
      let t : makes n.second l ≡ true = ap (λ (b : Bool). b || makes n.second l) (sym e) ∙ w in
      ap (λ (b : Bool). same_lane l (lane_to n.first.target) || (b || false)) (and_parts _ _ t).1 ∙ or-true (same_lane l (lane_to n.first.target)))
      (cases_Bool (makes n.first l));
}

-- the way to each executor has its number
abbrev pub three_ways : List ℕ
three_ways = 0 ∷ 1 ∷ 2 ∷ []

-- what was written by an outlet goes by its way
module _ (o : OutboxesView) (ways : o.ways ≡ three_ways) (waits : (y : ℕ) → waits_for o y ≡ []) where
  -- the way to an executor has its number
  own-way : (y : ℕ) → y < 3 → way_to o y ≡ y
  own-way y within = ap (λ (ws : List ℕ). get_or ws y (2 ^ 16 - 1)) ways ∙ at y within
    where
      at : (y : ℕ) → y < 3 → get_or three_ways y (2 ^ 16 - 1) ≡ y
      at zero e = refl
      at (suc zero) e = refl
      at (suc (suc zero)) e = refl
      at (suc (suc (suc y))) e = absurd (omega (arith, e))

  way-first : (p : Outlet) → HasWay p o.outboxes → (0 < p.count → p.target < 3) → (l : Lane) → makes p l ≡ true → (target_of l ≡ p.target) × (way_to o (target_of l) ≡ p.target) × (reached o (way_to o (target_of l)) l ≡ point 0 false) × (way_to o (target_of l) < length o.outboxes)
  way-first p has small l made =
      let is : l ≡ lane_to p.target = makes-lane p l made in
      let to : target_of l ≡ p.target = ap (λ (m : Lane). target_of m) is ∙ target-lane p.target in
      let count = some p.count (and_parts _ _ made).0 in
      let way = has count in
      let by = own-way (target_of l) (subst (λ (y : ℕ). y < 3) (sym to) (small count)) ∙ to in
      let sent : sent_to o p.target l ≡ point 0 false =
      ap (λ (b : Option OutboxView). option_map_or (λ (b : OutboxView). sent_at b.sends.send_counts l) b nowhere) way.1
      ∙ ap (λ s. sent_at s.send_counts l) way.2
      ∙ cond-true (same_lane l (lane_to p.target)) (point 0 false) nowhere (ap (λ (m : Lane). same_lane m (lane_to p.target)) is ∙ same_lane-self (lane_to p.target)) in (
        to,
        by,
        ap (λ (y : ℕ). reached o y l) by ∙ ap (λ zs. past (sent_to o p.target l) (on l zs)) (waits p.target) ∙ sent,
        subst (λ (y : ℕ). y < length o.outboxes) (sym by) (slice_get_within o.outboxes p.target way.0 way.1),
      )
    where
      some : (count : ℕ) → not (count == 0) ≡ true → 0 < count
      some zero e = absurd (both_ways false refl e)
      some (suc count) e = omega arith

module _ (n : Node) (s : NodeStands n) (f : IsFresh n) where
  -- what a taker that has taken nothing is to take
  pub node-taking : IsTaking n.executor (node_view n).lanes (fresh_take_counts (lane_to n.executor ∷ []))
  node-taking l m next = ⊎_elim
      (λ (t : same_lane l (lane_to n.executor) ≡ true).
      let is : l ≡ lane_to n.executor = same_lane-equal l (lane_to n.executor) t in
      let number : 0 ≡ m = same_Some 0 m (sym (cond-true _ _ _ t) ∙ next) in
      (ap (λ (k : Lane). target_of k) is ∙ target-lane n.executor, written-none l is, cond-true _ _ _ t ∙ f.taken ∙ number))
      (λ (e : same_lane l (lane_to n.executor) ≡ false). absurd (none-some m (sym (cond-false _ _ _ e) ∙ next)))
      (cases_Bool (same_lane l (lane_to n.executor)))
    where
      made-none : (p : Outlet) → p.target ≢ n.executor → (l : Lane) → l ≡ lane_to n.executor → makes p l ≡ false
      made-none p apart l is = ⊎_elim
          (λ (t : makes p l ≡ true). absurd (apart (ap (λ (k : Lane). k.hop) (sym (makes-lane p l t) ∙ is))))
          (λ (e : makes p l ≡ false). e) (cases_Bool (makes p l))

      written-none : (l : Lane) → l ≡ lane_to n.executor → writes n l ≡ false
      written-none l is = ap (λ (b : Bool). b || makes n.second l) (made-none n.first s.first l is) ∙ made-none n.second s.second l is

  module _ (o : OutboxesView) (ways : o.ways ≡ three_ways) (waits : (y : ℕ) → waits_for o y ≡ []) (first : HasWay n.first o.outboxes) (second : HasWay n.second o.outboxes) (first_there : 0 < n.first.count → n.first.target < 3)
      (second_there : 0 < n.second.count → n.second.target < 3) where
    -- a lane that the nodes write goes by its way, and nothing of it was made
    written : (l : Lane) → writes n l ≡ true → (target_of l ≢ n.executor) × (came n l ≡ point 0 false) × (reached o (way_to o (target_of l)) l ≡ point 0 false) × (way_to o (target_of l) < length o.outboxes) × (l ≡ lane_to (way_to o (target_of l)))
    written l w = ⊎_elim
        (λ (t : makes n.first l ≡ true).
        let way = way-first o ways waits n.first first first_there l t in
        (λ e. s.first (sym way.0 ∙ e), cond-true _ _ _ t ∙ ap (λ (m : ℕ). point m false) f.first, way.2, way.3, makes-lane n.first l t ∙ ap (λ (y : ℕ). lane_to y) (sym way.1)))
        (λ (e : makes n.first l ≡ false).
        let t : makes n.second l ≡ true = ap (λ (b : Bool). b || makes n.second l) (sym e) ∙ w in
        let way = way-first o ways waits n.second second second_there l t in
        (λ k. s.second (sym way.0 ∙ k), cond-false _ _ _ e ∙ cond-true _ _ _ t ∙ ap (λ (m : ℕ). point m false) f.second, way.2, way.3, makes-lane n.second l t ∙ ap (λ (y : ℕ). lane_to y) (sym way.1)))
        (cases_Bool (makes n.first l))

    -- there is a place for each lane to another executor
    place-at : map (λ b. b.stopped) o.waiting.targets ≡ no_stops 1 ∷ no_stops 1 ∷ no_stops 1 ∷ [] → length o.outboxes ≡ 3 → (y : ℕ) → y < length o.outboxes → stops_for o.waiting y ≡ no_stops 1
    place-at reserved three y within =
        let stopped = λ (b : BacklogView (Stamp AdmittedView)). b.stopped in
        let found : option_map stopped (slice_get o.waiting.targets y) ≡ Some (no_stops 1) =
        sym (slice_get-map stopped o.waiting.targets y) ∙ ap (λ (l : List StopsView). slice_get l y) reserved ∙ at-three y (omega (arith, within, three)) in
        found-or (slice_get o.waiting.targets y) found
      where
        at-three : (y : ℕ) → y < 3 → slice_get (no_stops 1 ∷ no_stops 1 ∷ no_stops 1 ∷ []) y ≡ Some (no_stops 1)
        at-three zero e = refl
        at-three (suc zero) e = refl
        at-three (suc (suc zero)) e = refl
        at-three (suc (suc (suc y))) e = absurd (omega (arith, e))

        found-or : (b : Option (BacklogView (Stamp AdmittedView))) → option_map (λ b. b.stopped) b ≡ Some (no_stops 1) → option_map_or (λ b. b.stopped) b (no_stops 0) ≡ no_stops 1
        found-or None e = absurd (none-some (no_stops 1) e)
        found-or (Some b) e = same_Some b.stopped (no_stops 1) e

    -- nothing was made, so all that was made has gone on
    pub node-runs : (world : World) (work : OutputsView) → work.items ≡ [] → map (λ b. b.stopped) o.waiting.targets ≡ no_stops 1 ∷ no_stops 1 ∷ no_stops 1 ∷ [] → length o.outboxes ≡ 3
        → RunsOn world n.executor (node_view n).lanes o work
    node-runs world work none reserved three =
        runs-start world n.executor (node_view n).lanes o work none
        (λ l here w. absurd ((written l w).0 here))
        (λ l away w. let p = written l w in p.1 ∙ sym p.2)
        (λ l w away. (written l w).3)
        (λ y. lane_to y ∷ [])
        (λ y within. subst (λ (z : StopsView). HasPlaces z (lane_to y ∷ [])) (sym (place-at reserved three y within)) (one-place (lane_to y)))
        (λ l w. subst (λ (k : Lane). AreAmong (l ∷ []) (k ∷ [])) ((written l w).4) (λ m e. e))

-- ---- three ways to an inbox

-- what holds of the elements of a list of three, and what they are mapped to
pub each-of-three : {A B : Type 0} (P : A → Type 0) (f : A → B) (xs : List A) (x y z : A) (a b c : B) → xs ≡ x ∷ y ∷ z ∷ [] → Each P xs → map f xs ≡ a ∷ b ∷ c ∷ [] → (P x × (f x ≡ a)) × (P y × (f y ≡ b)) × (P z × (f z ≡ c))
each-of-three P f xs x y z a b c are each mapped =
    let all = subst (λ (l : List _). Each P l) are each in
    let same = ap (λ (l : List _). map f l) (sym are) ∙ mapped in
    ((all.0, ap (λ (l : List _). get_or l 0 a) same), (all.1.0, ap (λ (l : List _). get_or l 1 a) same), (all.1.1.0, ap (λ (l : List _). get_or l 2 a) same))

pub all-of-three : {A : Type 0} (P : A → Type 0) (xs : List A) (x y z : A) → xs ≡ x ∷ y ∷ z ∷ [] → All P xs → P x × P y × P z
all-of-three P xs x y z are each =
    let all = subst (λ (l : List _). All P l) are each in
    (all 0 x (omega arith), all 1 y (omega arith), all 2 z (omega arith))

-- a sender and a seat of an inbox are a way to it
pub way-is : {W M S T : Type 0} (ends : MailboxEnds M S T) (mailbox : M) (name : Name) (inbox : Inbox W M S T) (lanes : List Lane) (way : Way W M S T)
    → inbox.mailbox ≡ mailbox → inbox.admission.name ≡ name → ends.is_sender mailbox way.sender × (ends.sends_of way.sender ≡ fresh_sends lanes) → way.seat ≡ new_send_seat name way.seat.number
    → IsWay ends inbox lanes way
way-is ends mailbox name inbox lanes way same-mailbox same-name is own = record {
  sender = subst (λ (x : _). ends.is_sender x way.sender) (sym same-mailbox) is.0;
  sends = is.1;
  seat = own ∙ ap (λ (x : Name). new_send_seat x way.seat.number) (sym same-name);
}

-- what each executor has of the inboxes of three
pub opened-are-places : {W M S T : Type 0} (ends : MailboxEnds M S T) {inboxes : List (Inbox W M S T)} {a b c : Inbox W M S T} {own-a own-b own-c : Own W M S T} {a0 a1 a2 b0 b1 b2 c0 c1 c2 : Way W M S T} {p q r : Place W M S T}
    → inboxes ≡ a ∷ b ∷ c ∷ [] → IsOpened ends 0 a own-a a0 a1 a2 → IsOpened ends 1 b own-b b0 b1 b2 → IsOpened ends 2 c own-c c0 c1 c2
    → p ≡ record { own = own-a; first = a1; second = b1; third = c0 } → q ≡ record { own = own-b; first = a2; second = b2; third = c1 } → r ≡ record { own = own-c; first = a0; second = b0; third = c2 }
    → ArePlaces ends inboxes (record { first = p; second = q; third = r })
opened-are-places {W = W} {M = M} {S = S} {T = T} ends {inboxes = inboxes} {a = a} {b = b} {c = c} {own-a = own-a} {own-b = own-b} {own-c = own-c} {a0 = a0} {a1 = a1} {a2 = a2} {b0 = b0} {b1 = b1} {b2 = b2} {c0 = c0} {c1 = c1} {c2 = c2} {p = p} {q = q} {r = r} are first second third p-is q-is r-is =
    let places : Places W M S T = record {
      first = record { own = own-a; first = a1; second = b1; third = c0 };
      second = record { own = own-b; first = a2; second = b2; third = c1 };
      third = record { own = own-c; first = a0; second = b0; third = c2 };
    } in
    let found : Places W M S T = record { first = p; second = q; third = r } in
    let same : found ≡ places = (λ i. record { first = p-is i; second = q-is i; third = r-is i }) in
    subst (λ (s : Places W M S T). ArePlaces ends inboxes s) (sym same)
    (subst (λ (l : List (Inbox W M S T)). ArePlaces ends l places) (sym are) (record {
      of_first = record { three = refl; there = omega arith; own = λ i at. owns 0 own-a a i at first.own; first = λ i at. way [] a1 a i at first.none; second = λ i at. way [] b1 b i at second.none; third = λ i at. way (lane_to 2 ∷ []) c0 c i at third.flags };
      of_second = record { three = refl; there = omega arith; own = λ i at. owns 1 own-b b i at second.own; first = λ i at. way [] a2 a i at first.never; second = λ i at. way [] b2 b i at second.never; third = λ i at. way [] c1 c i at third.none };
      of_third = record { three = refl; there = omega arith; own = λ i at. owns 2 own-c c i at third.own; first = λ i at. way (lane_to 0 ∷ []) a0 a i at first.flags; second = λ i at. way (lane_to 1 ∷ []) b0 b i at second.flags; third = λ i at. way [] c2 c i at third.never };
    }))
  where
    owns : (executor : ℕ) (own : Own W M S T) (x y : Inbox W M S T) → Some x ≡ Some y → IsOwn ends x executor own → IsOwn ends y executor own
    owns executor own x y at is = subst (λ (j : Inbox W M S T). IsOwn ends j executor own) (same_Some x y at) is

    way : (lanes : List Lane) (w : Way W M S T) (x y : Inbox W M S T) → Some x ≡ Some y → IsWay ends x lanes w → IsWay ends y lanes w
    way lanes w x y at is = subst (λ (j : Inbox W M S T). IsWay ends j lanes w) (same_Some x y at) is

-- where flags are made for a target, there is its outbox
pub has-way : (executor : ℕ) (o : Outlet) (items : List OutboxView) (a b c : OutboxView) → items ≡ a ∷ b ∷ c ∷ [] → a.sends ≡ fresh_sends (makes_for executor 0) → b.sends ≡ fresh_sends (makes_for executor 1) → c.sends ≡ fresh_sends (makes_for executor 2)
    → HasLane executor o → HasWay o items
has-way executor o items a b c are first second third lane some =
    let has = lane some in
    subst (λ (l : List OutboxView). (x : OutboxView) × (slice_get l o.target ≡ Some x) × (x.sends ≡ fresh_sends (lane_to o.target ∷ []))) (sym are) (at o.target has.0 has.1)
  where
    at : (target : ℕ) → target < 3 → makes_for executor target ≡ lane_to target ∷ [] → (x : OutboxView) × (slice_get (a ∷ b ∷ c ∷ []) target ≡ Some x) × (x.sends ≡ fresh_sends (lane_to target ∷ []))
    at zero within is = (a, refl, first ∙ ap (λ ls. fresh_sends ls) is)
    at (suc zero) within is = (b, refl, second ∙ ap (λ ls. fresh_sends ls) is)
    at (suc (suc zero)) within is = (c, refl, third ∙ ap (λ ls. fresh_sends ls) is)
    at (suc (suc (suc target))) within is = absurd (omega (arith, within))
