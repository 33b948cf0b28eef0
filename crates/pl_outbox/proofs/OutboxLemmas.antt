-- One outbox among all, and what waits at it.
use Rattle.std.proofs.Common.{◌≡◌, ◌≢◌, ℕ, zero, suc, ◌+◌, ◌*◌, ◌<◌, ◌≤◌, ◌^◌, Bool, true, false, List, [], ◌∷◌, length, map, set, slice_get, Option, Some, None, refl, ap, sym, ◌∙◌, subst, ⊎_elim, arith, ◌==◌}
use Rattle.std.specs.Prelude.{IfSome}
use Rattle.std.specs.List.{All, filter, sum_by, find}
use Rattle.std.specs.Option.{option_map, option_map_or}
use Rattle.std.proofs.lemmas.Bool.{cases_eq, eqb-true, eq-eqb, cases_Bool, cond-true, cond-false, both_ways}
use Rattle.std.proofs.lemmas.List.{length-set}
use Rattle.std.proofs.lemmas.List.Elements.{All-nil, All-cons, All-head, All-tail}
use Rattle.std.proofs.lemmas.List.Sums.{sum_by-set, sum_by-le, length-filter}
use Rattle.std.proofs.lemmas.Option.{slice_get_within, get_or_from_slice_get, none-some, same_Some}
use Rattle.pl_event.specs.Worlds.{World}
use Rattle.pl_event.proofs.Lists.{cons-none}
use Rattle.pl_context.specs.Backlogs.{BacklogView}
use Rattle.pl_context.specs.declared.waiting.Stamp.{Stamp}
use Rattle.pl_context.specs.WaitingViews.{WaitingView, Entry, Aged, Holds, is_for}
use Rattle.pl_context.proofs.Firsts.{find-All}
use Rattle.pl_context.proofs.WaitingCalls.{at-set_here, at-set_there, count-past, envelopes-for, none-long}
use Rattle.pl_words.specs.declared.admission.TheConstants.{MAX_ADMISSIONS}
use Rattle.pl_words.specs.Admissions.{AdmittedView, SendSeatView, admitted_of}
use Rattle.pl_queue.specs.declared.views.SenderView.{SenderView}
use Rattle.pl_outbox.specs.Sent.{AreBehind}
use Rattle.pl_outbox.specs.OutboxViews.{OutboxView, OutboxesView, IsOutbox, IsOutboxes, IsNew, waits_in, is_closed, SomeClosed, closed_seat}

-- ---- a list in which one outbox has changed

pub record Replaces (os os' : List OutboxView) (way : ℕ) (b b' : OutboxView) : Type 0 where
  pub was : slice_get os way ≡ Some b
  pub is : slice_get os' way ≡ Some b'
  pub others : (y : ℕ) → y ≢ way → slice_get os' y ≡ slice_get os y
  pub count : length os' ≡ length os
  pub made : sum_by (λ o. o.seat.made) os' + b.seat.made ≡ sum_by (λ o. o.seat.made) os + b'.seat.made

pub replaces-set : (os : List OutboxView) (way : ℕ) (b b' : OutboxView) → slice_get os way ≡ Some b → Replaces os (set os way b') way b b'
replaces-set os way b b' at =
    let within = slice_get_within os way b at in record {
      was = at;
      is = at-set_here os way b' within;
      others = λ y other. at-set_there os way y b' other;
      count = length-set os way b';
      made =
          let s = sum_by-set (λ (o : OutboxView). o.seat.made) os way b' b within in
          let g = ap (λ (o : OutboxView). o.seat.made) (get_or_from_slice_get os way b b at) in
          omega (arith, s, g);
    }

pub replaces-then : (os mid os' : List OutboxView) (way : ℕ) (b c d b' : OutboxView) → Replaces os mid way b c → Replaces mid os' way d b' → Replaces os os' way b b'
replaces-then os mid os' way b c d b' r q = record {
  was = r.was;
  is = q.is;
  others = λ y other. q.others y other ∙ r.others y other;
  count = q.count ∙ r.count;
  made =
      let same = ap (λ (o : OutboxView). o.seat.made) (same_Some c d (sym r.is ∙ q.was)) in
      let m = r.made in let n = q.made in omega (arith, m, n, same);
}

-- a function of one outbox, or of none
pub on-way : {X : Type 0} (f : OutboxView → X) (d : X) (os os' : List OutboxView) (way : ℕ) (b b' : OutboxView) → Replaces os os' way b b' → f b' ≡ f b
    → (y : ℕ) → option_map_or f (slice_get os' y) d ≡ option_map_or f (slice_get os y) d
on-way f d os os' way b b' r same y = ⊎_elim
    (λ (e : y ≡ way). ap (λ k. option_map_or f (slice_get os' k) d) e ∙ ap (λ o. option_map_or f o d) r.is ∙ same ∙ sym (ap (λ k. option_map_or f (slice_get os k) d) e ∙ ap (λ o. option_map_or f o d) r.was))
    (λ (e : y ≡ way → ⊥). ap (λ o. option_map_or f o d) (r.others y e))
    (cases_eq y way)

pub on-some : {X : Type 0} (f : OutboxView → X) (os os' : List OutboxView) (way : ℕ) (b b' : OutboxView) → Replaces os os' way b b' → f b' ≡ f b
    → (y : ℕ) → option_map f (slice_get os' y) ≡ option_map f (slice_get os y)
on-some f os os' way b b' r same y = ⊎_elim
    (λ (e : y ≡ way). ap (λ k. option_map f (slice_get os' k)) e ∙ ap (option_map f) r.is ∙ ap (λ z. Some z) same ∙ sym (ap (λ k. option_map f (slice_get os k)) e ∙ ap (option_map f) r.was))
    (λ (e : y ≡ way → ⊥). ap (option_map f) (r.others y e))
    (cases_eq y way)

-- a target that was seen closed goes on to be so
pub closed-on : (os os' : List OutboxView) (w w' : WaitingView AdmittedView) {ts ts' ws ws' : List ℕ} (way : ℕ) (b b' : OutboxView) → Replaces os os' way b b' → (is_closed b.seat.seen ≡ true → is_closed b'.seat.seen ≡ true)
    → SomeClosed (record { outboxes = os; waiting = w; tried = ts; ways = ws }) → SomeClosed (record { outboxes = os'; waiting = w'; tried = ts'; ways = ws' })
closed-on os os' w w' way b b' r on s = ⊎_elim
    (λ (e : s.way ≡ way).
    let same : s.outbox ≡ b = same_Some s.outbox b (sym s.is ∙ ap (λ k. slice_get os k) e ∙ r.was) in
    record { way = way; outbox = b'; is = r.is; closed = on (ap (λ (o : OutboxView). is_closed o.seat.seen) (sym same) ∙ s.closed) })
    (λ (e : s.way ≡ way → ⊥). record { way = s.way; outbox = s.outbox; is = r.others s.way e ∙ s.is; closed = s.closed })
    (cases_eq s.way way)

-- ---- what waits at a way

pub waits-entries : (w : WaitingView AdmittedView) (entries : List (Entry AdmittedView)) → Holds w entries → (y : ℕ) → waits_in w y ≡ map (λ e. e.envelope) (filter (is_for y) entries)
waits-entries w entries h y = by (slice_get w.targets y) refl
  where
    by : (o : Option (BacklogView (Stamp AdmittedView))) → slice_get w.targets y ≡ o → waits_in w y ≡ map (λ e. e.envelope) (filter (is_for y) entries)
    by None at =
        ap (λ (o : Option (BacklogView (Stamp AdmittedView))). option_map_or (λ b. map (λ x. x.0) b.items) o []) at
        ∙ sym (ap (λ (zs : List (Entry AdmittedView)). map (λ e. e.envelope) zs) (none-long (filter (is_for y) entries) (length-filter (is_for y) entries ∙ sym (count-past w entries h y at))))
    by (Some b) at = ap (λ (o : Option (BacklogView (Stamp AdmittedView))). option_map_or (λ b. map (λ x. x.0) b.items) o []) at ∙ envelopes-for w entries h y b at

-- ---- what holds between two calls

-- One outbox has changed, and what waits at it.
pub outboxes-hold : (world : World) (os os' : List OutboxView) (w w' : WaitingView AdmittedView) (way : ℕ) (b b' : OutboxView) {ts ts' ws ws' : List ℕ} (is : IsOutboxes world (record { outboxes = os; waiting = w; tried = ts; ways = ws }))
    → Replaces os os' way b b' → (entries : List (Entry AdmittedView)) → Holds w' entries → length w'.targets ≡ length w.targets
    → IsOutbox world b' (filter (is_for way) entries) → ((y : ℕ) → y ≢ way → filter (is_for y) entries ≡ filter (is_for y) is.entries)
    → w'.added + b.seat.made ≤ w.added + b'.seat.made → IsOutboxes world (record { outboxes = os'; waiting = w'; tried = ts'; ways = ws' })
outboxes-hold world os os' w w' way b b' is r entries holds targets here others more = record {
  entries = entries;
  holds = holds;
  each = λ y c at. ⊎_elim
      (λ (e : y ≡ way).
      let same : b' ≡ c = same_Some b' c (sym r.is ∙ ap (λ k. slice_get os' k) (sym e) ∙ at) in
      subst (λ (z : ℕ × OutboxView). IsOutbox world z.1 (filter (is_for z.0) entries)) (λ i. (sym e i, same i)) here)
      (λ (e : y ≡ way → ⊥).
      subst (λ (zs : List (Entry AdmittedView)). IsOutbox world c zs) (sym (others y e)) (is.each y c (sym (r.others y e) ∙ at)))
      (cases_eq y way);
  targets = targets ∙ is.targets ∙ sym r.count;
  added = let m = r.made in let a = is.added in omega (arith, m, a, more);
  few = let n = r.count in let f = is.few in omega (arith, n, f);
}

-- There are never so many additions that the count of them is full.
pub few-added : (world : World) (o : OutboxesView) → IsOutboxes world o → o.waiting.added + 1 < 2 ^ 64
few-added world o is =
    let all = sum_by-le (λ (b : OutboxView). b.seat.made) MAX_ADMISSIONS o.outboxes (each-made o.outboxes (λ y b at. (is.each y b at).made)) in
    let most = times (length o.outboxes) is.few in
    let a = is.added in omega (arith, all, a, most)
  where
    each-made : (os : List OutboxView) → ((y : ℕ) (b : OutboxView) → slice_get os y ≡ Some b → b.seat.made ≤ MAX_ADMISSIONS) → All (λ b. b.seat.made ≤ MAX_ADMISSIONS) os
    each-made [] h = All-nil (λ b. b.seat.made ≤ MAX_ADMISSIONS)
    each-made (b ∷ os) h = All-cons (λ b. b.seat.made ≤ MAX_ADMISSIONS) b os (h 0 b refl) (each-made os (λ y c at. h (suc y) c at))

    times : (n : ℕ) → n < 2 ^ 16 → n * MAX_ADMISSIONS < 2 ^ 63
    times n few = omega (arith, few)

-- an outbox with the same counts, of the same seat, stands as before
pub outbox-same : (world : World) (b b' : OutboxView) (entries : List (Entry AdmittedView)) → IsOutbox world b entries → b'.sends ≡ b.sends → b'.seat.kept ≡ b.seat.kept → b'.seat.made ≤ MAX_ADMISSIONS
    → admitted_of b'.seat ≡ admitted_of b.seat → IsOutbox world b' entries
outbox-same world b b' entries is sends kept made seat = record {
  behind = subst (λ s. AreBehind world s.send_counts (map (λ e. e.envelope) entries)) (sym sends) is.behind;
  kept = let p = ap (λ (s : SenderView). s.pushes) sends in let k = is.kept in omega (arith, kept, p, k);
  admitted = subst (λ a. All (λ e. e.token ≡ a) entries) (sym seat) is.admitted;
  made = made;
}

-- what is found among all that wait is for a way that is there
pub found-there : (world : World) (o : OutboxesView) (is : IsOutboxes world o) (opens : ℕ → Bool) (found : Option ℕ) → found ≡ option_map (λ (e : Entry AdmittedView). e.target) (find (λ e. opens e.target) is.entries)
    → IfSome found (λ way. way < length o.outboxes)
found-there world o is opens found e = subst (λ (f : Option ℕ). IfSome f (λ way. way < length o.outboxes)) (sym e) (by (find (λ e. opens e.target) is.entries) refl)
  where
    there : (aged : List (Aged AdmittedView)) → All (λ i. i.entry.target < length o.waiting.targets) aged → All (λ (e : Entry AdmittedView). e.target < length o.outboxes) (map (λ i. i.entry) aged)
    there [] all = All-nil (λ (e : Entry AdmittedView). e.target < length o.outboxes)
    there (a ∷ aged) all =
        All-cons (λ (e : Entry AdmittedView). e.target < length o.outboxes) a.entry (map (λ i. i.entry) aged)
        (let h = All-head (λ i. i.entry.target < length o.waiting.targets) a aged all in let t = is.targets in omega (arith, h, t))
        (there aged (All-tail (λ i. i.entry.target < length o.waiting.targets) a aged all))

    by : (f : Option (Entry AdmittedView)) → find (λ (e : Entry AdmittedView). opens e.target) is.entries ≡ f → IfSome (option_map (λ e. e.target) f) (λ way. way < length o.outboxes)
    by None e = tt
    by (Some x) e =
        find-All (λ (e : Entry AdmittedView). opens e.target) (λ (e : Entry AdmittedView). e.target < length o.outboxes) is.entries x
        (subst (λ (zs : List (Entry AdmittedView)). All (λ e. e.target < length o.outboxes) zs) (sym is.holds.entries_are) (there is.holds.aged is.holds.holds.there)) e

-- something waits at the way for which it is
pub found-waits : (w : WaitingView AdmittedView) (entries : List (Entry AdmittedView)) → Holds w entries → (opens : ℕ → Bool) (found : Option ℕ) → found ≡ option_map (λ (e : Entry AdmittedView). e.target) (find (λ e. opens e.target) entries)
    → IfSome found (λ way. waits_in w way ≢ [])
found-waits w entries holds opens found e = subst (λ (f : Option ℕ). IfSome f (λ way. waits_in w way ≢ [])) (sym e) (by (find (λ e. opens e.target) entries) refl)
  where
    passes : (es : List (Entry AdmittedView)) (x : Entry AdmittedView) → find (λ e. opens e.target) es ≡ Some x → map (λ (z : Entry AdmittedView). z.envelope) (filter (is_for x.target) es) ≢ []
    passes [] x at none = none-some x at
    passes (z ∷ es) x at none = ⊎_elim
        (λ (own : is_for x.target z ≡ true).
        cons-none z.envelope (map (λ y. y.envelope) (filter (is_for x.target) es)) (sym (ap (map (λ (y : Entry AdmittedView). y.envelope)) (cond-true (is_for x.target z) (z ∷ filter (is_for x.target) es) (filter (is_for x.target) es) own)) ∙ none))
        (λ (other : is_for x.target z ≡ false). ⊎_elim
        (λ (goes : opens z.target ≡ true).
        let same : z ≡ x = same_Some z x (sym (cond-true (opens z.target) (Some z) (find (λ e. opens e.target) es) goes) ∙ at) in
        absurd (both_ways (is_for x.target z) other (eq-eqb z.target x.target (ap (λ (y : Entry AdmittedView). y.target) same))))
        (λ (stays : opens z.target ≡ false).
        passes es x (sym (cond-false (opens z.target) (Some z) (find (λ e. opens e.target) es) stays) ∙ at)
        (sym (ap (map (λ (y : Entry AdmittedView). y.envelope)) (cond-false (is_for x.target z) (z ∷ filter (is_for x.target) es) (filter (is_for x.target) es) other)) ∙ none))
        (cases_Bool (opens z.target)))
        (cases_Bool (is_for x.target z))

    by : (f : Option (Entry AdmittedView)) → find (λ (e : Entry AdmittedView). opens e.target) entries ≡ f → IfSome (option_map (λ e. e.target) f) (λ way. waits_in w way ≢ [])
    by None at = tt
    by (Some x) at = λ none. passes entries x at (sym (waits-entries w entries holds x.target) ∙ none)

-- where no entry is, nothing waits at any way
pub none-wait : (w : WaitingView AdmittedView) (entries : List (Entry AdmittedView)) → Holds w entries → (length entries == 0) ≡ true → (y : ℕ) → waits_in w y ≡ []
none-wait w entries holds e y = waits-entries w entries holds y ∙ none entries e
  where
    none : (zs : List (Entry AdmittedView)) → (length zs == 0) ≡ true → map (λ (z : Entry AdmittedView). z.envelope) (filter (is_for y) zs) ≡ []
    none [] f = refl
    none (z ∷ zs) f = let h = eqb-true (length (z ∷ zs)) 0 f in absurd (omega (arith, h))

-- ---- outboxes by which nothing was sent, while nothing waits

at-new : (os : List OutboxView) (y : ℕ) (b : OutboxView) → All IsNew os → slice_get os y ≡ Some b → IsNew b
at-new [] y b all at = absurd (no at)
  where
    no : None ≡ Some b → ⊥
    no e = cc
at-new (x ∷ os) zero b all at = subst IsNew (same_Some x b at) (All-head IsNew x os all)
at-new (x ∷ os) (suc y) b all at = at-new os y b (All-tail IsNew x os all) at

pub new-hold : (world : World) (os : List OutboxView) (w : WaitingView AdmittedView) (tried ways : List ℕ) → All IsNew os → Holds w [] → length w.targets ≡ length os → w.added ≡ 0 → length os < 2 ^ 16
    → IsOutboxes world (record { outboxes = os; waiting = w; tried = tried; ways = ways })
new-hold world os w tried ways new holds targets added few = record {
  entries = [];
  holds = holds;
  each = λ y b at. let n = at-new os y b new at in let kept = n.kept in let pushes = n.pushes in let made = n.made in record {
    behind = λ l. tt;
    kept = omega (arith, kept, pushes);
    admitted = All-nil (λ (e : Entry AdmittedView). e.token ≡ admitted_of b.seat);
    made = omega (arith, made);
  };
  targets = targets;
  added = omega (arith, added);
  few = few;
}

-- ---- seats that have seen their targets closed

-- The first of them has.
pub closed_seat-closed : (os : List OutboxView) (seat : SendSeatView) → closed_seat os ≡ Some seat → is_closed seat.seen ≡ true
closed_seat-closed [] seat at = cc
closed_seat-closed (o ∷ os) seat at = ⊎_elim
    (λ (e : is_closed o.seat.seen ≡ true). subst (λ (s : SendSeatView). is_closed s.seen ≡ true) (same_Some o.seat seat (sym (cond-true (is_closed o.seat.seen) (Some o.seat) (closed_seat os) e) ∙ at)) e)
    (λ (e : is_closed o.seat.seen ≡ false). closed_seat-closed os seat (sym (cond-false (is_closed o.seat.seen) (Some o.seat) (closed_seat os) e) ∙ at))
    (cases_Bool (is_closed o.seat.seen))

-- There is one where any has.
pub some-closed_seat : (os : List OutboxView) (way : ℕ) (b : OutboxView) → slice_get os way ≡ Some b → is_closed b.seat.seen ≡ true → (seat : SendSeatView) × (closed_seat os ≡ Some seat)
some-closed_seat [] way b at closed = cc
some-closed_seat (o ∷ os) zero b at closed =
    (o.seat, cond-true (is_closed o.seat.seen) (Some o.seat) (closed_seat os) (subst (λ (x : OutboxView). is_closed x.seat.seen ≡ true) (sym (same_Some o b at)) closed))
some-closed_seat (o ∷ os) (suc n) b at closed =
    let later = some-closed_seat os n b at closed in ⊎_elim
    (λ (e : is_closed o.seat.seen ≡ true). (o.seat, cond-true (is_closed o.seat.seen) (Some o.seat) (closed_seat os) e))
    (λ (e : is_closed o.seat.seen ≡ false). (later.0, cond-false (is_closed o.seat.seen) (Some o.seat) (closed_seat os) e ∙ later.1))
    (cases_Bool (is_closed o.seat.seen))
