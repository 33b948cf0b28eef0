-- What the calls of one list of envelopes, kept by target, do to it.
use Rattle.std.proofs.Common.{◌≡◌, ◌≢◌, ℕ, zero, suc, ◌+◌, ◌<◌, ◌≤◌, Bool, true, cond, Option, Some, None, List, [], ◌∷◌, ◌++◌, length, map, get_or, set, refl, sym, ap, ◌∙◌, subst, arith, inl, inr, append-nil}
use Rattle.std.specs.Prelude.{◌↔◌}
use Rattle.std.specs.List.{All, filter, find, position, remove, slice_get, count_by}
use Rattle.std.specs.Option.{option_map, option_map_or}
use Rattle.std.proofs.lemmas.List.{get_or-set_same, length-set}
use Rattle.std.proofs.lemmas.List.Elements.{All-head, All-tail}
use Rattle.std.proofs.lemmas.List.Sums.{length-filter}
use Rattle.std.proofs.lemmas.Simd.{map-map}
use Rattle.std.proofs.lemmas.Option.{slice_get-get_or, slice_get-map, slice_get_within, get_or_from_slice_get, same_Some, none-some}
use Rattle.std.proofs.lemmas.Bool.{cases_eq, eqb-true, ne_eqb}
use Rattle.pl_event.specs.declared.envelopes.Envelope.{Envelope}
use Rattle.pl_event.specs.declared.envelopes.Kind.{Kind}
use Rattle.pl_event.specs.declared.envelopes.Kind.TheVariants.{Data, Flags}
use Rattle.pl_event.proofs.Lists.{position-map, remove-map, filter-map, slice_get_none, count_by-map, option_map-map}
use Rattle.pl_context.specs.declared.added.Added.{Added}
use Rattle.pl_context.specs.declared.added.Added.TheVariants.{Last, Refused, Discarded}
use Rattle.pl_context.specs.declared.waiting.Stamp.{Stamp}
use Rattle.pl_context.specs.OutputsViews.{added_items, failure_of, stopped_after as put_stopped}
use Rattle.pl_context.specs.Backlogs.{BacklogView, AddsToken, handed_back}
use Rattle.pl_context.specs.Stops.{StopsView, no_stops, has_stopped}
use Rattle.pl_context.specs.WaitingViews.{WaitingView, Entry, Aged, is_for, is_aged_for, stamped, stops_for, room_for, Holds, Misses, WaitingAdds, Takes}
use Rattle.pl_context.proofs.Firsts.{IsFirst, position-first, find-Some-position, find-None-position}
use Rattle.pl_context.proofs.WaitingLemmas.{entry_of, holds-none, holds-more, front-first, count-waits, less-holds, less-misses}

-- ---- a part that was written

pub at-set_here : {X : Type 0} (xs : List X) (i : ℕ) (x : X) → i < length xs → slice_get (set xs i x) i ≡ Some x
at-set_here {X} xs i x within =
    slice_get-get_or (set xs i x) i x (omega (arith, within, length-set xs i x)) ∙ ap (λ (y : X). Some y) (get_or-set_same xs i x x within)

pub at-set_there : {X : Type 0} (xs : List X) (i j : ℕ) (x : X) → j ≢ i → slice_get (set xs i x) j ≡ slice_get xs j
at-set_there [] i j x other = refl
at-set_there (y ∷ ys) zero zero x other = absurd (other refl)
at-set_there (y ∷ ys) zero (suc j) x other = refl
at-set_there (y ∷ ys) (suc i) zero x other = refl
at-set_there (y ∷ ys) (suc i) (suc j) x other = at-set_there ys i j x (λ same. other (ap (λ (n : ℕ). suc n) same))

-- the lanes that have stopped on the way to one of these
abbrev pub stops_in : {A : Type 0} → List (BacklogView (Stamp A)) → ℕ → StopsView
stops_in targets y = option_map_or (λ b. b.stopped) (slice_get targets y) (no_stops 0)

-- they are the same where the part that was written stops as before
pub stops-kept : {A : Type 0} (targets : List (BacklogView (Stamp A))) (target : ℕ) (b new : BacklogView (Stamp A)) → slice_get targets target ≡ Some b
    → new.stopped ≡ b.stopped → (y : ℕ) → stops_in (set targets target new) y ≡ stops_in targets y
stops-kept {A} targets target b new at stopped y = elim (cases_eq y target) [
  | inl same ↦ subst (λ (n : ℕ). stops_in (set targets target new) n ≡ stops_in targets n) (sym same)
      (ap (λ (o : Option (BacklogView (Stamp A))). option_map_or (λ b. b.stopped) o (no_stops 0)) (at-set_here targets target new (slice_get_within targets target b at))
      ∙ stopped
      ∙ sym (ap (λ (o : Option (BacklogView (Stamp A))). option_map_or (λ b. b.stopped) o (no_stops 0)) at))
  | inr other ↦ ap (λ (o : Option (BacklogView (Stamp A))). option_map_or (λ b. b.stopped) o (no_stops 0)) (at-set_there targets target y new other)
]

-- ---- an addition

pub added-few : (answer : Added) (e : Envelope) → length (added_items answer e) ≤ 1
added-few Last e = omega arith
added-few Refused e = by e.lane.kind
  where
    by : (k : Kind) → length {A = Envelope} (elim k [ Data ↦ record e { item = failure_of e.item } ∷ [] | Flags ↦ [] ]) ≤ 1
    by Data = omega arith
    by Flags = omega arith
added-few Discarded e = omega arith

module _ {A : Type 0} (before after : WaitingView A) (target : ℕ) (e : Envelope) (token : A) (result : Option A) (old new : BacklogView (Stamp A)) (given : Option (Stamp A))
    (at : slice_get before.targets target ≡ Some old)
    (written : after.targets ≡ set before.targets target new) (added : after.added ≡ before.added + 1)
    (adds : AddsToken old e (record { age = before.added; token = token }) given new) where
  within : target < length before.targets
  within = slice_get_within before.targets target old at

  abbrev entries_for : List Envelope → List (Entry A)
  entries_for es = map (λ x. record { target = target; envelope = x; token = token }) es

  by-list : (es : List Envelope) → length es ≤ 1 → new.items ≡ old.items ++ map (λ x. (x, record { age = before.added; token = token })) es
      → (entries : List (Entry A)) → Holds before entries → Holds after (entries ++ entries_for es)
  by-list [] few items entries h =
      subst (Holds after) (sym (append-nil entries)) (holds-none before after target new within written added old at (items ∙ append-nil old.items) entries h)
  by-list (x ∷ []) few items entries h = holds-more before after target new within written added x token old at items entries h
  by-list (x ∷ y ∷ es) few items entries h = absurd (omega (arith, few))

  stopped-before : stops_for before target ≡ old.stopped
  stopped-before = ap (λ (o : Option (BacklogView (Stamp A))). option_map_or (λ b. b.stopped) o (no_stops 0)) at

  stopped-after : stops_for after target ≡ new.stopped
  stopped-after =
      ap (λ (l : List (BacklogView (Stamp A))). option_map_or (λ b. b.stopped) (slice_get l target) (no_stops 0)) written
      ∙ ap (λ (o : Option (BacklogView (Stamp A))). option_map_or (λ b. b.stopped) o (no_stops 0)) (at-set_here before.targets target new within)

  room-before : room_for before target ≡ old.room
  room-before = ap (λ (o : Option (BacklogView (Stamp A))). option_map_or (λ b. b.room) o 0) at

  room-after : room_for after target ≡ new.room
  room-after =
      ap (λ (l : List (BacklogView (Stamp A))). option_map_or (λ b. b.room) (slice_get l target) 0) written
      ∙ ap (λ (o : Option (BacklogView (Stamp A))). option_map_or (λ b. b.room) o 0) (at-set_here before.targets target new within)

  pub waiting-adds : result ≡ option_map (λ l. l.token) given → WaitingAdds before target e token result after
  waiting-adds is = record {
    answer = adds.answer;
    holds = by-list (added_items adds.answer e) (added-few adds.answer e) adds.items;
    stopped = stopped-after ∙ adds.stopped ∙ ap (λ (s : StopsView). put_stopped adds.answer s e.lane) (sym stopped-before);
    discarded = subst (λ (s : StopsView). (adds.answer ≡ Discarded) ↔ (has_stopped s e.lane ≡ true)) (sym stopped-before) adds.discarded;
    last = λ open_lane room.
        adds.last (ap (λ (s : StopsView). has_stopped s e.lane) (sym stopped-before) ∙ open_lane) (subst (λ (n : ℕ). 0 < n) room-before room);
    room = omega (arith, room-before, room-after, adds.room);
    back = is ∙ ap (option_map (λ (l : Stamp A). l.token)) adds.back ∙ handed adds.answer e.lane.kind;
    added = added;
    targets = ap (λ (l : List (BacklogView (Stamp A))). length l) written ∙ length-set before.targets target new;
    others = λ y other. ap (λ (l : List (BacklogView (Stamp A))). slice_get l y) written ∙ at-set_there before.targets target y new other;
  }
    where
      handed : (answer : Added) (kind : Kind) → option_map (λ (l : Stamp A). l.token) (handed_back answer kind (record { age = before.added; token = token })) ≡ handed_back answer kind token
      handed Last kind = refl
      handed Refused Data = refl
      handed Refused Flags = refl
      handed Discarded kind = refl

-- ---- a taking

module _ {A : Type 0} (before : WaitingView A) (entries : List (Entry A)) (h : Holds before entries) (target : ℕ) where
  -- no target has this number
  pub none-past : slice_get before.targets target ≡ None → find (is_aged_for target) h.aged ≡ None
  none-past past = by (find (is_aged_for target) h.aged) refl
    where
      by : (o : Option (Aged A)) → find (is_aged_for target) h.aged ≡ o → o ≡ None
      by None is = refl
      by (Some a) is =
          let f = find-Some-position (is_aged_for target) h.aged a is in
          let first = position-first (is_aged_for target) h.aged f.0 f.1 in
          let here = h.holds.there f.0 a first.within in
          let on = eqb-true (get_or h.aged f.0 a).entry.target target (first.passes a) in
          absurd (omega (arith, here, on, slice_get_none before.targets target past))

  -- or nothing waits for it
  pub none-waits : (b : BacklogView (Stamp A)) → slice_get before.targets target ≡ Some b → b.items ≡ [] → find (is_aged_for target) h.aged ≡ None
  none-waits b at empty =
      by (find (is_aged_for target) h.aged)
      (sym (front-first before h.aged h.holds target b at) ∙ ap (λ (l : List (Envelope × Stamp A)). slice_get l 0) empty)
    where
      by : (o : Option (Aged A)) → option_map stamped o ≡ None → o ≡ None
      by None is = refl
      by (Some a) is = absurd (none-some (stamped a) (sym is))

  module _ (after : WaitingView A) where
    pub takes-nothing : after ≡ before → find (is_aged_for target) h.aged ≡ None → Takes before entries target None after
    takes-nothing same none = record {
      taken = (
        ap (position (is_for target)) h.entries_are ∙ position-map (is_for target) entry_of h.aged ∙ find-None-position (is_aged_for target) h.aged none,
        same,
      );
      stopped = λ y. ap (λ (w : WaitingView A). stops_for w y) same;
      targets = ap (λ (w : WaitingView A). length w.targets) same;
    }

    module _ (b new : BacklogView (Stamp A)) (at : slice_get before.targets target ≡ Some b) (envelope : Envelope) (l : Stamp A) (front : slice_get b.items 0 ≡ Some (envelope, l)) (items : new.items ≡ remove b.items 0) (stopped : new.stopped ≡ b.stopped) (room : b.room < new.room)
        (written : after.targets ≡ set before.targets target new) (added : after.added ≡ before.added) (taken : after.taken ≡ l.age) where
      within-taken : target < length before.targets
      within-taken = slice_get_within before.targets target b at

      found : (a : Aged A) × (find (is_aged_for target) h.aged ≡ Some a) × (stamped a ≡ (envelope, l))
      found = by (find (is_aged_for target) h.aged) refl (sym (front-first before h.aged h.holds target b at) ∙ front)
        where
          by : (o : Option (Aged A)) → find (is_aged_for target) h.aged ≡ o → option_map stamped o ≡ Some (envelope, l) → (a : Aged A) × (find (is_aged_for target) h.aged ≡ Some a) × (stamped a ≡ (envelope, l))
          by None is none = absurd (none-some (envelope, l) none)
          by (Some a) is same = (a, is, same_Some (stamped a) (envelope, l) same)

      place : (i : ℕ) × (position (is_aged_for target) h.aged ≡ Some i) × (slice_get h.aged i ≡ Some found.0)
      place = find-Some-position (is_aged_for target) h.aged found.0 found.1

      first : IsFirst (is_aged_for target) h.aged place.0
      first = position-first (is_aged_for target) h.aged place.0 place.1

      is-found : (d : Aged A) → get_or h.aged place.0 d ≡ found.0
      is-found d = get_or_from_slice_get h.aged place.0 found.0 d place.2

      entry-by : ℕ → Envelope × Stamp A → Entry A
      entry-by t y = record { target = t; envelope = y.0; token = y.1.token }

      entry-is : found.0.entry ≡ record { target = target; envelope = envelope; token = l.token }
      unfolding found entry-by
      entry-is =
          let x = found.0.entry in
          let on : x.target ≡ target = eqb-true x.target target (ap (is_aged_for target) (sym (is-found found.0)) ∙ first.passes found.0) in
          ap (λ (t : ℕ). entry-by t (stamped found.0)) on
          ∙ ap (entry-by target) found.2

      roomy : 0 < room_for after target
      roomy =
          let is = ap (λ (l : List (BacklogView (Stamp A))). option_map_or (λ b. b.room) (slice_get l target) 0) written
          ∙ ap (λ (o : Option (BacklogView (Stamp A))). option_map_or (λ b. b.room) o 0) (at-set_here before.targets target new within-taken) in
          omega (arith, is, room)

      pub takes-first : Takes before entries target (Some (envelope, l.token)) after
      takes-first = record {
        taken = (
          place.0,
          ap (position (is_for target)) h.entries_are ∙ position-map (is_for target) entry_of h.aged ∙ place.1,
          ap (λ (l : List (Entry A)). slice_get l place.0) h.entries_are ∙ slice_get-map entry_of h.aged place.0 ∙ ap (option_map entry_of) place.2 ∙ ap (λ (x : Entry A). Some x) entry-is,
          subst (Holds after) (sym (ap (λ (l : List (Entry A)). remove l place.0) h.entries_are ∙ remove-map entry_of h.aged place.0))
              (less-holds before after h.aged h.holds target place.0 first b new at items written added),
          subst (λ (l : List (Entry A)). Misses after l place.0) (sym h.entries_are)
              (less-misses before after h.aged h.holds target place.0 first b new at items written added
              (λ d. ap (λ (x : Aged A). x.age) (is-found d) ∙ ap (λ (x : Envelope × Stamp A). x.1.age) found.2 ∙ sym taken) roomy),
        );
        stopped = λ y. ap (λ (l : List (BacklogView (Stamp A))). stops_in l y) written ∙ stops-kept before.targets target b new at stopped y;
        targets = ap (λ (l : List (BacklogView (Stamp A))). length l) written ∙ length-set before.targets target new;
      }

-- ---- what waits, counted, and one by one

module _ {A : Type 0} (w : WaitingView A) (entries : List (Entry A)) (h : Holds w entries) where
  counted : (target : ℕ) → count_by (is_for target) entries ≡ count_by (is_for target) (map entry_of h.aged)
  counted target = ap (λ (l : List (Entry A)). count_by (is_for target) l) h.entries_are

  -- nothing waits for a target that is not there
  waits-past : (target : ℕ) → slice_get w.targets target ≡ None → filter (is_aged_for target) h.aged ≡ []
  waits-past target past = none h.aged h.holds.there
    where
      none : (aged : List (Aged A)) → All (λ i. i.entry.target < length w.targets) aged → filter (is_aged_for target) aged ≡ []
      none [] there = refl
      none (x ∷ xs) there =
          let here = All-head (λ (i : Aged A). i.entry.target < length w.targets) x xs there in
          let off = ne_eqb x.entry.target target (λ same. absurd (omega (arith, same, here, slice_get_none w.targets target past))) in
          ap (λ (b : Bool). cond b (x ∷ filter (is_aged_for target) xs) (filter (is_aged_for target) xs)) off
          ∙ none xs (All-tail (λ (i : Aged A). i.entry.target < length w.targets) x xs there)

  pub count-past : (target : ℕ) → slice_get w.targets target ≡ None → 0 ≡ count_by (is_for target) entries
  count-past target past =
      sym (counted target ∙ count_by-map (is_for target) entry_of h.aged ∙ sym (length-filter (is_aged_for target) h.aged)
      ∙ ap (λ (l : List (Aged A)). length l) (waits-past target past))

  pub count-here : (target : ℕ) (b : BacklogView (Stamp A)) → slice_get w.targets target ≡ Some b → length b.items ≡ count_by (is_for target) entries
  count-here target b at = count-waits w h.aged h.holds target b at ∙ sym (counted target)

  -- the envelope at a position
  entry-at : (target place : ℕ) → slice_get (map (λ (e : Entry A). e.envelope) (filter (is_for target) entries)) place
      ≡ option_map (λ (i : Aged A). i.entry.envelope) (slice_get (filter (is_aged_for target) h.aged) place)
  entry-at target place =
      ap (λ (l : List (Entry A)). slice_get (map (λ (e : Entry A). e.envelope) l) place) (ap (filter (is_for target)) h.entries_are ∙ filter-map (is_for target) entry_of h.aged)
      ∙ slice_get-map (λ (e : Entry A). e.envelope) (map entry_of (filter (is_aged_for target) h.aged)) place
      ∙ ap (option_map (λ (e : Entry A). e.envelope)) (slice_get-map entry_of (filter (is_aged_for target) h.aged) place)
      ∙ option_map-map (λ (e : Entry A). e.envelope) entry_of (slice_get (filter (is_aged_for target) h.aged) place)

  pub at-past : (target place : ℕ) → slice_get w.targets target ≡ None → None ≡ slice_get (map (λ (e : Entry A). e.envelope) (filter (is_for target) entries)) place
  at-past target place past =
      sym (entry-at target place ∙ ap (λ (l : List (Aged A)). option_map (λ (i : Aged A). i.entry.envelope) (slice_get l place)) (waits-past target past))

  pub at-here : (target place : ℕ) (b : BacklogView (Stamp A)) → slice_get w.targets target ≡ Some b
      → option_map (λ (x : Envelope × Stamp A). x.0) (slice_get b.items place) ≡ slice_get (map (λ (e : Entry A). e.envelope) (filter (is_for target) entries)) place
  at-here target place b at =
      ap (λ (l : List (Envelope × Stamp A)). option_map (λ (x : Envelope × Stamp A). x.0) (slice_get l place)) (h.holds.waits target b at)
      ∙ ap (option_map (λ (x : Envelope × Stamp A). x.0)) (slice_get-map stamped (filter (is_aged_for target) h.aged) place)
      ∙ option_map-map (λ (x : Envelope × Stamp A). x.0) stamped (slice_get (filter (is_aged_for target) h.aged) place)
      ∙ sym (entry-at target place)

-- ---- what was taken last

pub none-long : {X : Type 0} (xs : List X) → length xs ≡ 0 → xs ≡ []
none-long [] none = refl
none-long (x ∷ xs) none = absurd (omega (arith, none))

module _ {A : Type 0} (w : WaitingView A) (entries : List (Entry A)) (i : ℕ) (m : Misses w entries i) (entry : Entry A) (at : slice_get entries i ≡ Some entry) where
  missed-target : (d : Aged A) → (get_or m.aged i d).entry.target ≡ entry.target
  missed-target d =
      let here = slice_get-map entry_of m.aged i ∙ ap (option_map entry_of) (slice_get-get_or m.aged i d m.within) in
      ap (λ (e : Entry A). e.target) (same_Some (get_or m.aged i d).entry entry (sym here ∙ ap (λ (l : List (Entry A)). slice_get l i) (sym m.entries_are) ∙ at))

  -- its target is there
  pub missed-there : entry.target < length w.targets
  missed-there =
      let d : Aged A = record { entry = entry; age = 0 } in
      let there = m.there i d m.within in
      omega (arith, there, missed-target d)

  -- and has room for it
  pub missed-room : (target : ℕ) → entry.target ≡ target → (b : BacklogView (Stamp A)) → slice_get w.targets target ≡ Some b → 0 < b.room
  missed-room target on b at_target =
      let d : Aged A = record { entry = entry; age = 0 } in
      let room = subst (λ (n : ℕ). 0 < room_for w n) (missed-target d ∙ on) (m.room d) in
      let is = ap (λ (o : Option (BacklogView (Stamp A))). option_map_or (λ b. b.room) o 0) at_target in
      omega (arith, room, is)

-- what was taken for a target, may be put back there
module _ {A : Type 0} (w now : WaitingView A) (same : w ≡ now) (target : ℕ)
    (r : (entries : List (Entry A)) × (i : ℕ) × (entry : Entry A) × (slice_get entries i ≡ Some entry) × (entry.target ≡ target) × Misses now entries i) where
  missed : Misses w r.0 r.1
  missed = subst (λ (v : WaitingView A). Misses v r.0 r.1) (sym same) r.5

  pub back-there : target < length w.targets
  back-there = let there = missed-there w r.0 r.1 missed r.2 r.3 in omega (arith, there, r.4)

  pub back-room : (b : BacklogView (Stamp A)) → slice_get w.targets target ≡ Some b → 0 < b.room
  back-room = missed-room w r.0 r.1 missed r.2 r.3 target r.4

-- the envelopes that wait for a target, in their order
pub envelopes-for : {A : Type 0} (w : WaitingView A) (entries : List (Entry A)) (h : Holds w entries) (target : ℕ) (b : BacklogView (Stamp A)) → slice_get w.targets target ≡ Some b
    → map (λ (x : Envelope × Stamp A). x.0) b.items ≡ map (λ (e : Entry A). e.envelope) (filter (is_for target) entries)
envelopes-for {A} w entries h target b at =
    ap (map (λ (x : Envelope × Stamp A). x.0)) (h.holds.waits target b at)
    ∙ map-map (λ (x : Envelope × Stamp A). x.0) stamped (filter (is_aged_for target) h.aged)
    ∙ sym (map-map (λ (e : Entry A). e.envelope) entry_of (filter (is_aged_for target) h.aged))
    ∙ ap (map (λ (e : Entry A). e.envelope)) (sym (filter-map (is_for target) entry_of h.aged) ∙ ap (filter (is_for target)) (sym h.entries_are))
