-- A part takes what waits for it, or a writer is refused: what waits then.
use Rattle.std.proofs.Common.{◌≡◌, ℕ, zero, suc, ◌+◌, Bool, true, false, ◌&&◌, cond, List, [], ◌∷◌, ◌++◌, length, map, get_or, Option, None, refl, ap, sym, ◌∙◌, subst, ⊎_elim, append-nil}
use Rattle.std.specs.Prelude.{◌==◌, is_some, if◌then◌else◌}
use Rattle.std.proofs.lemmas.Bool.{cond-true, cond-false, cases_Bool, both_ways}
use Rattle.std.proofs.lemmas.List.{length-map}
use Rattle.pl_event.specs.declared.events.Event.{Event}
use Rattle.pl_event.specs.declared.envelopes.Envelope.{Envelope}
use Rattle.pl_event.specs.declared.envelopes.Lane.{Lane}
use Rattle.pl_event.specs.Hops.{same_lane, data_lane}
use Rattle.pl_event.specs.Meaning.{Meaning}
use Rattle.pl_event.specs.Worlds.{World, closes}
use Rattle.pl_event.proofs.SameLanes.{same_lane-equal, same_lane-self}
use Rattle.pl_context.specs.ContextViews.{ContextView}
use Rattle.pl_context.specs.OutputsViews.{OutputsView}
use Rattle.pl_context.specs.Stops.{HasPlaces, AreAmong, has_stopped}
use Rattle.pl_flow.specs.Flows.{Point, point, on, IsGood, IsFlow, past}
use Rattle.pl_flow.specs.Makes.{Makes, LaneGrows}
use Rattle.pl_flow.proofs.FlowLemmas.{on-append, past-append, IsFlow-append, on-own, on-other}
use Rattle.pl_head.specs.Transports.{TransportState}
use Rattle.pl_part.specs.Paths.{PathPartView, SamePath, enters_path, path_lanes}
use Rattle.pl_part.specs.Parts.{ChannelPartView, PartHolds, SamePart, has_entered, part_taken, part_lanes, part_writes, writes_at, part_came}
use Rattle.pl_part_tests.specs.Playing.{Waits, Plays}

-- ---- one lane

pub waits-more : (world : World) (writes b a : Bool) (taken : ℕ) (xs ys : List Envelope) (from to : Point) → Waits world writes b taken xs from → LaneGrows world writes b a from ys to → Waits world writes a taken (xs ++ ys) to
waits-more world writes b a taken xs ys from to w g = record {
  over = w.over;
  flow = ⊎_elim
      (λ (t : b ≡ true). without (g.discards t).0)
      (λ (f : b ≡ false). ⊎_elim
      (λ (own : writes ≡ true). IsFlow-append world (point taken w.over) xs ys w.flow (subst (λ p. IsFlow world p ys) (sym (w.up_to own f)) (g.flow f)))
      (λ (not : writes ≡ false). without (g.idle not))
      (cases_Bool writes))
      (cases_Bool b);
  idle = λ not. ap (λ zs. zs ++ ys) (w.idle not) ∙ g.idle not;
  up_to = λ own e. ⊎_elim
      (λ (t : b ≡ true). absurd (both_ways a e (g.discards t).1))
      (λ (f : b ≡ false). past-append (point taken w.over) xs ys ∙ ap (λ p. past p ys) (w.up_to own f) ∙ g.up_to e)
      (cases_Bool b);
}
  where
    without : ys ≡ [] → IsFlow world (point taken w.over) (xs ++ ys)
    without none = subst (λ zs. IsFlow world (point taken w.over) zs) (sym (ap (λ zs. xs ++ zs) none ∙ append-nil xs)) w.flow

-- the front is taken
pub waits-less : (world : World) (writes stopped : Bool) (taken : ℕ) (x : Envelope) (xs : List Envelope) (came : Point) → Waits world writes stopped taken (x ∷ xs) came → Waits world writes stopped (x.number + 1) xs came
waits-less world writes stopped taken x xs came w = record {
  over = closes x.item;
  flow = w.flow.1;
  idle = λ not. absurd (no (w.idle not));
  up_to = w.up_to;
}
  where
    no : x ∷ xs ≡ [] → ⊥
    no e = cc

-- ---- the same nodes

some-at : {A : Type 0} (xs : List (Option A)) (i : ℕ) → get_or (map (λ (slot : Option A). is_some slot) xs) i false ≡ is_some (get_or xs i None)
some-at [] i = refl
some-at (x ∷ xs) zero = refl
some-at (x ∷ xs) (suc i) = some-at xs i

pub slot-filled : {S : Type 0} (p : PathPartView S) (hop : ℕ) → is_some (get_or p.contexts hop None) ≡ get_or (map (λ (slot : Option (ContextView S)). is_some slot) p.contexts) hop false
slot-filled p hop = sym (some-at p.contexts hop)

same-path-entered : {S : Type 0} (p p' : PathPartView S) → SamePath p p' → (l : Lane) → enters_path p' l ≡ enters_path p l
same-path-entered p p' same l =
    let slot = slot-filled p' l.hop ∙ ap (λ (bs : List Bool). get_or bs l.hop false) same.contexts ∙ sym (slot-filled p l.hop) in
    (λ i. (l.channel == same.channel i) && (if l.hop == same.tail_hop i then same.tail i else slot i))

same-count : {S : Type 0} (p p' : PathPartView S) → SamePath p p' → length p'.contexts ≡ length p.contexts
same-count p p' same =
    sym (length-map p'.contexts (λ (slot : Option (ContextView _)). is_some slot)) ∙ ap (λ (bs : List Bool). length bs) same.contexts ∙ length-map p.contexts (λ (slot : Option (ContextView _)). is_some slot)

pub same-entered : {S T : Type 0} (p p' : ChannelPartView S T) → SamePart p p' → (l : Lane) → has_entered p' l ≡ has_entered p l
same-entered p p' same l =
    let count = same-count p.path p'.path same.path in
    let path = same-path-entered p.path p'.path same.path l in
    (λ i. if l.hop == count i then same.head i && same_lane l (data_lane (same.path.channel i) (count i)) else path i)

-- ---- a part and its list

module _ {S T : Type 0} (world : World) (meaning : S → Meaning) (stands_after : S → List Event → Type 0) (state : T → TransportState) where
  -- what one node makes of its lanes, all of them make
  grows-among : (writes here b a : Bool) (from to : Point) (added : List Envelope) → LaneGrows world (writes && here) b a from added to → LaneGrows world writes b a from added to
  grows-among writes here b a from to added g = record { idle = λ not. g.idle (ap (λ (w : Bool). w && here) not); discards = g.discards; flow = g.flow; up_to = g.up_to }

  -- The node at a hop has put out what it made, and they have taken so much.
  pub plays-more : (p p' : ChannelPartView S T) (hop : ℕ) (b a : OutputsView) (taken : Lane → ℕ)
      → ((l : Lane) → has_entered p l ≡ true → Waits world (part_writes meaning p l) (has_stopped b.stopped l) (taken l) (on l b.items) (part_came meaning p l))
      → HasPlaces b.stopped (part_lanes p) → SamePart p p' → ((l : Lane) → part_taken p' l ≡ taken l) → ((l : Lane) → part_writes meaning p' l ≡ part_writes meaning p l)
      → PartHolds world meaning stands_after state p' → Makes world (writes_at meaning p hop) (part_came meaning p) (part_came meaning p') b a
      → ((lanes : List Lane) → AreAmong (part_lanes p) lanes → HasPlaces b.stopped lanes → HasPlaces a.stopped lanes) → Plays world meaning stands_after state p' a
  plays-more p p' hop b a taken waits places same counts writes holds made placed = record {
    holds = holds;
    lanes = λ l entered.
        let here = grows-among (part_writes meaning p l) _ (has_stopped b.stopped l) (has_stopped a.stopped l) (part_came meaning p l) (part_came meaning p' l) (on l made.added) (made.lanes l) in
        let grown = waits-more world (part_writes meaning p l) (has_stopped b.stopped l) (has_stopped a.stopped l) (taken l) (on l b.items) (on l made.added) (part_came meaning p l) (part_came meaning p' l)
        (waits l (sym (same-entered p p' same l) ∙ entered)) here in
        let items : on l b.items ++ on l made.added ≡ on l a.items = sym (on-append l b.items made.added) ∙ ap (λ zs. on l zs) (sym made.items) in
        subst (λ (y : Bool × ℕ × List Envelope). Waits world y.0 (has_stopped a.stopped l) y.1 y.2 (part_came meaning p' l)) (λ i. (sym (writes l) i, sym (counts l) i, items i)) grown;
    places = subst (λ (lanes : List Lane). HasPlaces a.stopped lanes) (sym (λ i. lanes-of (same.path.channel i) (same.path.executors i))) (placed (part_lanes p) (λ l e. e) places);
  }
    where
      lanes-of : ℕ → List ℕ → List Lane
      lanes-of channel executors = path_lanes {S = S} (record p.path { channel = channel; executors = executors })

  module _ (p : ChannelPartView S T) (b m : OutputsView) (x : Envelope) (items : b.items ≡ x ∷ m.items) (stops : m.stopped ≡ b.stopped) (plays : Plays world meaning stands_after state p b) where
    there : (l : Lane) → has_entered p l ≡ true → Waits world (part_writes meaning p l) (has_stopped m.stopped l) (part_taken p l) (on l (x ∷ m.items)) (part_came meaning p l)
    there l entered = subst (λ (y : Bool × List Envelope). Waits world (part_writes meaning p l) y.0 (part_taken p l) y.1 (part_came meaning p l))
        (λ i. (has_stopped (sym stops i) l, on l (items i))) (plays.lanes l entered)

    places : HasPlaces m.stopped (part_lanes p)
    places = subst (λ s. HasPlaces s (part_lanes p)) (sym stops) plays.places

    off : (l : Lane) → same_lane l x.lane ≡ false → has_entered p l ≡ true → Waits world (part_writes meaning p l) (has_stopped m.stopped l) (part_taken p l) (on l m.items) (part_came meaning p l)
    off l f entered = subst (λ zs. Waits world (part_writes meaning p l) (has_stopped m.stopped l) (part_taken p l) zs (part_came meaning p l)) (on-other l x m.items f) (there l entered)

    -- what waits for no node is gone
    pub plays-gone : has_entered p x.lane ≡ false → Plays world meaning stands_after state p m
    plays-gone away = record {
      holds = plays.holds;
      lanes = λ l entered. off l (other l entered) entered;
      places = places;
    }
      where
        other : (l : Lane) → has_entered p l ≡ true → same_lane l x.lane ≡ false
        other l entered = ⊎_elim
            (λ (t : same_lane l x.lane ≡ true). absurd (both_ways (has_entered p x.lane) away (subst (λ k. has_entered p k ≡ true) (same_lane-equal l x.lane t) entered)))
            (λ (f : same_lane l x.lane ≡ false). f)
            (cases_Bool (same_lane l x.lane))

    module _ (entered : has_entered p x.lane ≡ true) where
      own : Waits world (part_writes meaning p x.lane) (has_stopped m.stopped x.lane) (part_taken p x.lane) (x ∷ on x.lane m.items) (part_came meaning p x.lane)
      own = subst (λ zs. Waits world (part_writes meaning p x.lane) (has_stopped m.stopped x.lane) (part_taken p x.lane) zs (part_came meaning p x.lane)) (on-own x.lane x m.items (same_lane-self x.lane)) (there x.lane entered)

      pub front-number : x.number ≡ part_taken p x.lane
      front-number = own.flow.0.number

      pub front-good : IsGood world x
      front-good = own.flow.0.good

      pub front-places : HasPlaces m.stopped (part_lanes p)
      front-places = places

      front-left : (l : Lane) → has_entered p l ≡ true → Waits world (part_writes meaning p l) (has_stopped m.stopped l) (cond (same_lane l x.lane) (x.number + 1) (part_taken p l)) (on l m.items) (part_came meaning p l)
      front-left l on_part = ⊎_elim
          (λ (t : same_lane l x.lane ≡ true).
          let e = same_lane-equal l x.lane t in
          subst (λ (y : Lane × ℕ). Waits world (part_writes meaning p y.0) (has_stopped m.stopped y.0) y.1 (on y.0 m.items) (part_came meaning p y.0)) (λ i. (sym e i, sym (cond-true (same_lane l x.lane) (x.number + 1) (part_taken p l) t) i))
          (waits-less world (part_writes meaning p x.lane) (has_stopped m.stopped x.lane) (part_taken p x.lane) x (on x.lane m.items) (part_came meaning p x.lane) own))
          (λ (f : same_lane l x.lane ≡ false).
          subst (λ n. Waits world (part_writes meaning p l) (has_stopped m.stopped l) n (on l m.items) (part_came meaning p l)) (sym (cond-false (same_lane l x.lane) (x.number + 1) (part_taken p l) f)) (off l f on_part))
          (cases_Bool (same_lane l x.lane))

      -- the front is taken
      pub plays-front : (p' : ChannelPartView S T) (hop : ℕ) (a : OutputsView) → SamePart p p' → ((l : Lane) → part_taken p' l ≡ cond (same_lane l x.lane) (x.number + 1) (part_taken p l))
          → ((l : Lane) → part_writes meaning p' l ≡ part_writes meaning p l) → PartHolds world meaning stands_after state p' → Makes world (writes_at meaning p hop) (part_came meaning p) (part_came meaning p') m a
          → ((lanes : List Lane) → AreAmong (part_lanes p) lanes → HasPlaces m.stopped lanes → HasPlaces a.stopped lanes) → Plays world meaning stands_after state p' a
      plays-front p' hop a = plays-more p p' hop m a (λ l. cond (same_lane l x.lane) (x.number + 1) (part_taken p l)) front-left places

  -- nothing is taken
  pub plays-given : (p p' : ChannelPartView S T) (hop : ℕ) (b a : OutputsView) → Plays world meaning stands_after state p b → SamePart p p' → ((l : Lane) → part_writes meaning p' l ≡ part_writes meaning p l)
      → PartHolds world meaning stands_after state p' → Makes world (writes_at meaning p hop) (part_came meaning p) (part_came meaning p') b a
      → ((lanes : List Lane) → AreAmong (part_lanes p) lanes → HasPlaces b.stopped lanes → HasPlaces a.stopped lanes) → ((l : Lane) → part_taken p' l ≡ part_taken p l) → Plays world meaning stands_after state p' a
  plays-given p p' hop b a plays same writes holds made placed counts = plays-more p p' hop b a (λ l. part_taken p l) plays.lanes plays.places same counts writes holds made placed
