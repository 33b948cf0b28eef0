-- One list, kept by target: what an addition, a taking and a putting back do to both.
use Rattle.std.proofs.Common.{◌≡◌, ◌≢◌, ℕ, zero, suc, ◌+◌, ◌<◌, Bool, true, false, cond, Some, List, [], ◌∷◌, ◌++◌, length, map, filter, get_or, set, take, drop, refl, sym, ap, ◌∙◌, subst, arith, inl, inr, append-nil}
use Rattle.std.specs.List.{All, find, insert, remove, slice_get, count_by}
use Rattle.std.specs.Option.{option_map}
use Rattle.std.proofs.lemmas.List.{map-append, map-set, drop-map, length-map, length-set, get_or-map}
use Rattle.std.proofs.Math.Seq.{map-set_same}
use Rattle.std.proofs.lemmas.List.Sums.{length-filter}
use Rattle.std.proofs.lemmas.List.Elements.{All-push, All-append, All-take, All-drop, All-weaker, filter-append}
use Rattle.std.proofs.lemmas.List.Quantifiers.{all_pairs_push, all_pairs_remove}
use Rattle.std.proofs.lemmas.Option.{slice_get-map, slice_get-get_or, same_Some}
use Rattle.std.proofs.lemmas.Bool.{cases_eq, eq-eqb, eqb-true, ne_eqb}
use Rattle.pl_event.specs.declared.envelopes.Envelope.{Envelope}
use Rattle.pl_event.proofs.Lists.{at_set_same, at_set_other, option_map-map, count_by-map}
use Rattle.pl_context.specs.declared.waiting.Stamp.{Stamp}
use Rattle.pl_context.specs.Backlogs.{BacklogView}
use Rattle.pl_context.specs.WaitingViews.{WaitingView, Entry, Aged, is_for, is_aged_for, stamped, room_for, HoldsAged, Holds, Misses}
use Rattle.pl_context.proofs.Firsts.{IsFirst, find-filter, filter-remove_first, filter-remove_other}

abbrev pub entry_of : {A : Type 0} → Aged A → Entry A
entry_of i = i.entry

abbrev pub Older : {A : Type 0} → Aged A → Aged A → Type 0
Older older later = older.age < later.age

-- ---- one of the parts has changed

-- what each target has, where one was written
pub waits-set : {A : Type 0} (targets : List (BacklogView (Stamp A))) (y : ℕ) (new : BacklogView (Stamp A)) (aged now : List (Aged A))
    → ((z : ℕ) (b : BacklogView (Stamp A)) → slice_get targets z ≡ Some b → b.items ≡ map stamped (filter (is_aged_for z) aged))
    → new.items ≡ map stamped (filter (is_aged_for y) now)
    → ((z : ℕ) → z ≢ y → filter (is_aged_for z) now ≡ filter (is_aged_for z) aged)
    → (z : ℕ) (b : BacklogView (Stamp A)) → slice_get (set targets y new) z ≡ Some b → b.items ≡ map stamped (filter (is_aged_for z) now)
waits-set {A} targets y new aged now was here others z b at = elim (cases_eq z y) [
  | inl same ↦
      let is = at_set_same targets y new b (subst (λ (n : ℕ). slice_get (set targets y new) n ≡ Some b) same at) in
      ap (λ (v : BacklogView (Stamp A)). v.items) is ∙ here ∙ ap (λ (n : ℕ). map stamped (filter (is_aged_for n) now)) (sym same)
  | inr other ↦ was z b (at_set_other targets y z new b other at) ∙ ap (map stamped) (sym (others z other))
]

-- ---- one more

module _ {A : Type 0} (before after : WaitingView A) (target : ℕ) (new : BacklogView (Stamp A)) (within : target < length before.targets)
    (written : after.targets ≡ set before.targets target new) (added : after.added ≡ before.added + 1) where
  same-size : length after.targets ≡ length before.targets
  same-size = ap (λ (l : List (BacklogView (Stamp A))). length l) written ∙ length-set before.targets target new

  -- an age that is not given
  pub holds-none : (old : BacklogView (Stamp A)) → slice_get before.targets target ≡ Some old → new.items ≡ old.items → (entries : List (Entry A)) → Holds before entries → Holds after entries
  holds-none old at items entries h = record {
    aged = h.aged;
    entries_are = h.entries_are;
    holds = record {
      order = h.holds.order;
      younger = All-weaker (λ (i : Aged A). i.age < before.added) (λ i. i.age < after.added) (λ i below. omega (arith, below, added)) h.aged h.holds.younger;
      there = subst (λ (n : ℕ). All (λ i. i.entry.target < n) h.aged) (sym same-size) h.holds.there;
      waits = subst (λ (l : List (BacklogView (Stamp A))). (y : ℕ) (b : BacklogView (Stamp A)) → slice_get l y ≡ Some b → b.items ≡ map stamped (filter (is_aged_for y) h.aged)) (sym written)
          (waits-set before.targets target new h.aged h.aged h.holds.waits (items ∙ h.holds.waits target old at) (λ z other. refl));
    };
  }

  -- one envelope more
  module _ (envelope : Envelope) (token : A) where
    abbrev one : Entry A
    one = record { target = target; envelope = envelope; token = token }

    abbrev last : Aged A
    last = record { entry = one; age = before.added }

    last-same : (aged : List (Aged A)) → filter (is_aged_for target) (aged ++ last ∷ []) ≡ filter (is_aged_for target) aged ++ last ∷ []
    last-same aged =
        filter-append (is_aged_for target) aged (last ∷ [])
        ∙ ap (λ (t : Bool). filter (is_aged_for target) aged ++ cond t (last ∷ []) []) (eq-eqb target target refl)

    last-other : (aged : List (Aged A)) (z : ℕ) → z ≢ target → filter (is_aged_for z) (aged ++ last ∷ []) ≡ filter (is_aged_for z) aged
    last-other aged z other =
        filter-append (is_aged_for z) aged (last ∷ [])
        ∙ ap (λ (t : Bool). filter (is_aged_for z) aged ++ cond t (last ∷ []) []) (ne_eqb target z (λ same. other (sym same)))
        ∙ append-nil (filter (is_aged_for z) aged)

    pub holds-more : (old : BacklogView (Stamp A)) → slice_get before.targets target ≡ Some old
        → new.items ≡ old.items ++ (envelope, record { age = before.added; token = token }) ∷ []
        → (entries : List (Entry A)) → Holds before entries → Holds after (entries ++ one ∷ [])
    holds-more old at items entries h = record {
      aged = h.aged ++ last ∷ [];
      entries_are = ap (λ (l : List (Entry A)). l ++ one ∷ []) h.entries_are ∙ sym (map-append entry_of h.aged (last ∷ []));
      holds = record {
        order = all_pairs_push Older h.aged last h.holds.order h.holds.younger;
        younger =
            All-push (λ (i : Aged A). i.age < after.added) h.aged last
            (All-weaker (λ (i : Aged A). i.age < before.added) (λ i. i.age < after.added) (λ i below. omega (arith, below, added)) h.aged h.holds.younger)
            (omega (arith, added));
        there =
            All-push (λ (i : Aged A). i.entry.target < length after.targets) h.aged last
            (subst (λ (n : ℕ). All (λ i. i.entry.target < n) h.aged) (sym same-size) h.holds.there)
            (omega (arith, within, same-size));
        waits = subst (λ (l : List (BacklogView (Stamp A))). (y : ℕ) (b : BacklogView (Stamp A)) → slice_get l y ≡ Some b → b.items ≡ map stamped (filter (is_aged_for y) (h.aged ++ last ∷ []))) (sym written)
            (waits-set before.targets target new h.aged (h.aged ++ last ∷ []) h.holds.waits
            (items
            ∙ ap (λ (l : List (Envelope × Stamp A)). l ++ stamped last ∷ []) (h.holds.waits target old at)
            ∙ sym (map-append stamped (filter (is_aged_for target) h.aged) (last ∷ []))
            ∙ ap (map stamped) (sym (last-same h.aged)))
            (last-other h.aged));
      };
    }

-- ---- the first for a target

module _ {A : Type 0} (w : WaitingView A) (aged : List (Aged A)) (h : HoldsAged w aged) (target : ℕ) (b : BacklogView (Stamp A)) (at : slice_get w.targets target ≡ Some b) where
  -- the front of what waits for the target is the first for it
  pub front-first : slice_get b.items 0 ≡ option_map stamped (find (is_aged_for target) aged)
  front-first =
      ap (λ (l : List (Envelope × Stamp A)). slice_get l 0) (h.waits target b at)
      ∙ slice_get-map stamped (filter (is_aged_for target) aged) 0
      ∙ ap (option_map stamped) (sym (find-filter (is_aged_for target) aged))

  pub front-age : option_map (λ (entry : Envelope × Stamp A). entry.1.age) (slice_get b.items 0) ≡ option_map (λ (i : Aged A). i.age) (find (is_aged_for target) aged)
  front-age =
      ap (option_map (λ (entry : Envelope × Stamp A). entry.1.age)) front-first
      ∙ option_map-map (λ (entry : Envelope × Stamp A). entry.1.age) stamped (find (is_aged_for target) aged)

  -- how many wait
  pub count-waits : length b.items ≡ count_by (is_for target) (map entry_of aged)
  count-waits =
      ap (λ (l : List (Envelope × Stamp A)). length l) (h.waits target b at)
      ∙ length-map (filter (is_aged_for target) aged) stamped
      ∙ length-filter (is_aged_for target) aged
      ∙ sym (count_by-map (is_for target) entry_of aged)

-- ---- the first for a target is taken

module _ {A : Type 0} (before after : WaitingView A) (aged : List (Aged A)) (h : HoldsAged before aged) (target i : ℕ) (first : IsFirst (is_aged_for target) aged i)
    (b new : BacklogView (Stamp A)) (at : slice_get before.targets target ≡ Some b) (items : new.items ≡ remove b.items 0)
    (written : after.targets ≡ set before.targets target new) (added : after.added ≡ before.added) where
  size : length after.targets ≡ length before.targets
  size = ap (λ (l : List (BacklogView (Stamp A))). length l) written ∙ length-set before.targets target new

  less-waits : (y : ℕ) (c : BacklogView (Stamp A)) → slice_get after.targets y ≡ Some c → c.items ≡ map stamped (filter (is_aged_for y) (remove aged i))
  less-waits =
      subst (λ (l : List (BacklogView (Stamp A))). (y : ℕ) (c : BacklogView (Stamp A)) → slice_get l y ≡ Some c → c.items ≡ map stamped (filter (is_aged_for y) (remove aged i))) (sym written)
      (waits-set before.targets target new aged (remove aged i) h.waits
      (items
      ∙ ap (drop 1) (h.waits target b at)
      ∙ drop-map stamped 1 (filter (is_aged_for target) aged)
      ∙ ap (map stamped) (sym (filter-remove_first (is_aged_for target) aged i first)))
      (λ z other. filter-remove_other (is_aged_for z) aged i first.within
      (λ d. ne_eqb (get_or aged i d).entry.target z (λ same. other (sym same ∙ eqb-true (get_or aged i d).entry.target target (first.passes d))))))

  pub less-holds : Holds after (map entry_of (remove aged i))
  less-holds = record {
    aged = remove aged i;
    entries_are = refl;
    holds = record {
      order = all_pairs_remove Older aged i first.within h.order;
      younger =
          All-append (λ (i : Aged A). i.age < after.added) (take i aged) (drop (suc i) aged)
          (All-take (λ (i : Aged A). i.age < after.added) i aged (subst (λ (n : ℕ). All (λ i. i.age < n) aged) (sym added) h.younger))
          (All-drop (λ (i : Aged A). i.age < after.added) (suc i) aged (subst (λ (n : ℕ). All (λ i. i.age < n) aged) (sym added) h.younger));
      there =
          All-append (λ (i : Aged A). i.entry.target < length after.targets) (take i aged) (drop (suc i) aged)
          (All-take (λ (i : Aged A). i.entry.target < length after.targets) i aged (subst (λ (n : ℕ). All (λ i. i.entry.target < n) aged) (sym size) h.there))
          (All-drop (λ (i : Aged A). i.entry.target < length after.targets) (suc i) aged (subst (λ (n : ℕ). All (λ i. i.entry.target < n) aged) (sym size) h.there));
      waits = less-waits;
    };
  }

  pub less-misses : ((d : Aged A) → (get_or aged i d).age ≡ after.taken) → 0 < room_for after target → Misses after (map entry_of aged) i
  less-misses age room = record {
    aged = aged;
    entries_are = refl;
    order = h.order;
    younger = subst (λ (n : ℕ). All (λ i. i.age < n) aged) (sym added) h.younger;
    there = subst (λ (n : ℕ). All (λ i. i.entry.target < n) aged) (sym size) h.there;
    within = first.within;
    first = λ d k below.
        ap (λ (y : ℕ). is_aged_for y (get_or aged k d)) (eqb-true (get_or aged i d).entry.target target (first.passes d)) ∙ first.before k d below;
    age = age;
    room = λ d. subst (λ (y : ℕ). 0 < room_for after y) (sym (eqb-true (get_or aged i d).entry.target target (first.passes d))) room;
    waits = less-waits;
  }

-- ---- and put back

filter-set_first : {X : Type 0} (p : X → Bool) (xs : List X) (i : ℕ) (x : X) → i < length xs → p x ≡ true → ((d : X) (k : ℕ) → k < i → p (get_or xs k d) ≡ false)
    → filter p (set xs i x) ≡ x ∷ filter p (remove xs i)
filter-set_first p [] i x within on before = absurd (omega (arith, within))
filter-set_first p (y ∷ ys) zero x within on before = ap (λ (b : Bool). cond b (x ∷ filter p ys) (filter p ys)) on
filter-set_first {X} p (y ∷ ys) (suc i) x within on before =
    let off = before y 0 (omega arith) in
    ap (λ (b : Bool). cond b (y ∷ filter p (set ys i x)) (filter p (set ys i x))) off
    ∙ filter-set_first p ys i x (omega (arith, within)) on (λ d k below. before d (suc k) (omega (arith, below)))
    ∙ ap (λ (l : List X). x ∷ l) (sym (ap (λ (b : Bool). cond b (y ∷ filter p (remove ys i)) (filter p (remove ys i))) off))

filter-set_other : {X : Type 0} (p : X → Bool) (xs : List X) (i : ℕ) (x : X) → i < length xs → p x ≡ false → filter p (set xs i x) ≡ filter p (remove xs i)
filter-set_other p [] i x within off = absurd (omega (arith, within))
filter-set_other p (y ∷ ys) zero x within off = ap (λ (b : Bool). cond b (x ∷ filter p ys) (filter p ys)) off
filter-set_other {X} p (y ∷ ys) (suc i) x within off =
    ap (λ (l : List X). cond (p y) (y ∷ l) l) (filter-set_other p ys i x (omega (arith, within)) off)

module _ {A : Type 0} (before after : WaitingView A) (entries : List (Entry A)) (i : ℕ) (m : Misses before entries i) (old : Entry A) (old_at : slice_get entries i ≡ Some old)
    (entry : Entry A) (same : old.target ≡ entry.target) (b new : BacklogView (Stamp A)) (at : slice_get before.targets entry.target ≡ Some b)
    (items : new.items ≡ insert b.items 0 (entry.envelope, record { age = before.taken; token = entry.token }))
    (written : after.targets ≡ set before.targets entry.target new) (added : after.added ≡ before.added) where
  abbrev again : Aged A
  again = record { entry = entry; age = before.taken }

  abbrev whole : List (Aged A)
  whole = set m.aged i again

  target-of : (d : Aged A) → (get_or m.aged i d).entry.target ≡ entry.target
  target-of d =
      let at_map = ap (λ (l : List (Entry A)). slice_get l i) (sym m.entries_are) ∙ old_at in
      let is = same_Some (get_or m.aged i d).entry old (sym (slice_get-get_or (map entry_of m.aged) i (entry_of d) (omega (arith, m.within, length-map m.aged entry_of)) ∙ ap (λ (e : Entry A). Some e) (get_or-map entry_of m.aged i d (entry_of d) m.within)) ∙ at_map) in
      ap (λ (e : Entry A). e.target) is ∙ same

  -- ages and targets are as they were
  module _ (f : Aged A → ℕ) (like : (d : Aged A) → f again ≡ f (get_or m.aged i d)) where
    as-before : (k : ℕ) (d : Aged A) → k < length m.aged → f (get_or whole k d) ≡ f (get_or m.aged k d)
    as-before k d below =
        sym (get_or-map f whole k d (f d) (omega (arith, below, length-set m.aged i again)))
        ∙ ap (λ (l : List ℕ). get_or l k (f d)) (map-set_same f m.aged i again d (like d))
        ∙ get_or-map f m.aged k d (f d) below

  age-as : (k : ℕ) (d : Aged A) → k < length m.aged → (get_or whole k d).age ≡ (get_or m.aged k d).age
  age-as = as-before (λ (x : Aged A). x.age) (λ d. sym (m.age d))

  target-as : (k : ℕ) (d : Aged A) → k < length m.aged → (get_or whole k d).entry.target ≡ (get_or m.aged k d).entry.target
  target-as = as-before (λ (x : Aged A). x.entry.target) (λ d. sym (target-of d))

  long : length whole ≡ length m.aged
  long = length-set m.aged i again

  wide : length after.targets ≡ length before.targets
  wide = ap (λ (l : List (BacklogView (Stamp A))). length l) written ∙ length-set before.targets entry.target new

  pub back-holds : Holds after (set entries i entry)
  back-holds = record {
    aged = whole;
    entries_are = ap (λ (l : List (Entry A)). set l i entry) m.entries_are ∙ sym (map-set entry_of m.aged i again);
    holds = record {
      order = λ j k d earlier below.
          let older = m.order j k d earlier (omega (arith, below, long)) in
          let one = age-as j d (omega (arith, earlier, below, long)) in
          let other = age-as k d (omega (arith, below, long)) in
          omega (arith, older, one, other);
      younger = λ k d below.
          let was = m.younger k d (omega (arith, below, long)) in
          let same = age-as k d (omega (arith, below, long)) in
          omega (arith, was, same, added);
      there = λ k d below.
          let was = m.there k d (omega (arith, below, long)) in
          let same = target-as k d (omega (arith, below, long)) in
          omega (arith, was, same, wide);
      waits =
          subst (λ (l : List (BacklogView (Stamp A))). (y : ℕ) (c : BacklogView (Stamp A)) → slice_get l y ≡ Some c → c.items ≡ map stamped (filter (is_aged_for y) whole)) (sym written)
          (waits-set before.targets entry.target new (remove m.aged i) whole m.waits
          (items
          ∙ ap (λ (l : List (Envelope × Stamp A)). stamped again ∷ l) (m.waits entry.target b at)
          ∙ ap (map stamped) (sym (filter-set_first (is_aged_for entry.target) m.aged i again m.within (eq-eqb entry.target entry.target refl)
          (λ d k below. ap (λ (y : ℕ). is_aged_for y (get_or m.aged k d)) (sym (target-of d)) ∙ m.first d k below))))
          (λ z other. filter-set_other (is_aged_for z) m.aged i again m.within (ne_eqb entry.target z (λ same. other (sym same)))
          ));
    };
  }
