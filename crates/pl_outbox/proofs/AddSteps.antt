-- An envelope is added for a way, or is refused there.
use Rattle.std.proofs.Common.{◌≡◌, ◌≢◌, ℕ, ◌+◌, ◌-◌, ◌<◌, ◌≤◌, Bool, true, false, ◌||◌, ◌&&◌, ◌==◌, cond, List, [], ◌∷◌, ◌++◌, length, map, set, slice_get, Option, Some, None, refl, ap, sym, ◌∙◌, subst, ⊎_elim, arith, append-nil, length-append}
use Rattle.std.specs.List.{All, filter}
use Rattle.std.specs.Option.{option_map_or}
use Rattle.std.proofs.lemmas.Bool.{cond-true, cond-false, cases_eq, eq-eqb, ne_eqb, both_ways, or_parts, or_from}
use Rattle.std.proofs.lemmas.List.{map-append}
use Rattle.std.proofs.lemmas.List.Elements.{filter-append, All-append, All-nil, All-cons}
use Rattle.std.proofs.lemmas.Option.{none-some, same_Some}
use Rattle.pl_event.specs.declared.envelopes.Envelope.{Envelope}
use Rattle.pl_event.specs.declared.envelopes.Kind.{Kind}
use Rattle.pl_event.specs.declared.envelopes.Kind.TheVariants.{Data, Flags}
use Rattle.pl_event.specs.declared.envelopes.Lane.{Lane}
use Rattle.pl_event.specs.Hops.{same_lane}
use Rattle.pl_event.specs.Worlds.{World}
use Rattle.pl_context.specs.declared.added.Added.{Added}
use Rattle.pl_context.specs.declared.added.Added.TheVariants as added
use Rattle.pl_context.specs.declared.waiting.Stamp.{Stamp}
use Rattle.pl_context.specs.Stops.{has_stopped, no_stops, HasPlaces}
use Rattle.pl_context.specs.OutputsViews.{added_items, stand_in}
use Rattle.pl_context.specs.Backlogs.{BacklogView, handed_back}
use Rattle.pl_context.specs.WaitingViews.{WaitingView, Entry, WaitingAdds, is_for, stops_for}
use Rattle.pl_context.proofs.Places.{places-after}
use Rattle.pl_words.specs.declared.admission.Refused.{Refused}
use Rattle.pl_words.specs.declared.admission.Refused.TheVariants as refused
use Rattle.pl_words.specs.declared.admission.TheConstants.{MAX_ADMISSIONS}
use Rattle.pl_words.specs.declared.status.Status.{Status}
use Rattle.pl_words.specs.declared.status.Status.TheVariants.{Accepting, Closing, Closed}
use Rattle.pl_words.specs.Admissions.{SendSeatView, AdmittedView, admitted_of, Admits, Refuses, less_one}
use Rattle.pl_words.specs.Phases.{rank}
use Rattle.pl_flow.specs.Flows.{after, on, IsNext, past}
use Rattle.pl_flow.proofs.ItemLemmas.{stand_in-data, stand_in-flags}
use Rattle.pl_flow.proofs.MakeLemmas.{stopped-more}
use Rattle.pl_outbox.specs.Sent.{sent_at, AreBehind, behind}
use Rattle.pl_outbox.specs.OutboxViews.{OutboxView, OutboxesView, IsOutbox, IsOutboxes, entry_for, waits_in, sent_to, reached, is_closed, is_refused, refuses, is_cut, SomeClosed, Adds, Comes, RefusedBy}
use Rattle.pl_outbox.proofs.SentLemmas.{added-behind, added-reached}
use Rattle.pl_outbox.proofs.OutboxLemmas.{Replaces, replaces-set, replaces-then, on-some, closed-on, waits-entries, outboxes-hold, outbox-same}

-- ---- the seat

opened : (a b : Status) → rank a ≤ rank b → b ≢ Closed → is_closed a ≡ false
opened Accepting b le un = refl
opened Closing b le un = refl
opened Closed Accepting le un = absurd (omega (arith, le))
opened Closed Closing le un = absurd (omega (arith, le))
opened Closed Closed le un = absurd (un refl)

-- a seat that admits was not refused
pub admits-goes : (s t : SendSeatView) → Admits s t → is_refused s ≡ false
admits-goes s t a = or_from (is_closed s.seen) (s.made == MAX_ADMISSIONS) (opened s.seen t.seen a.later a.unclosed) (ne_eqb s.made MAX_ADMISSIONS (λ e. let r = a.room in absurd (omega (arith, r, e))))

-- a seat that is refused as closed has seen it
pub seen-closed : (s t : SendSeatView) → Refuses refused.Closed s t → is_closed t.seen ≡ true
seen-closed s t h = ⊎_elim
    (λ (e : (s.seen ≡ Closed) × (t ≡ s)). ap (λ (v : SendSeatView). is_closed v.seen) e.1 ∙ ap is_closed e.0)
    (λ (e : (s.seen ≢ Closed) × (s.made < MAX_ADMISSIONS) × (t ≡ record s { seen = Closed; steps = s.steps + 2 })). ap (λ (v : SendSeatView). is_closed v.seen) e.2)
    h

-- What a refusal leaves as it was, and that the seat is refused from then on.
pub record Leaves (s t : SendSeatView) : Type 0 where
  pub kept : t.kept ≡ s.kept
  pub made : t.made ≡ s.made
  pub seat : admitted_of t ≡ admitted_of s
  pub cut : is_refused t ≡ true
  pub closed : is_closed s.seen ≡ true → is_closed t.seen ≡ true

pub leaves : (r : Refused) (s t : SendSeatView) → Refuses r s t → Leaves s t
leaves refused.Closed s t h =
    let same : (t.kept ≡ s.kept) × (t.made ≡ s.made) × (admitted_of t ≡ admitted_of s) = ⊎_elim
    (λ (e : (s.seen ≡ Closed) × (t ≡ s)). keeps-counts t s e.1)
    (λ (e : (s.seen ≢ Closed) × (s.made < MAX_ADMISSIONS) × (t ≡ record s { seen = Closed; steps = s.steps + 2 })). keeps-counts t (record s { seen = Closed; steps = s.steps + 2 }) e.2)
    h in record {
      kept = same.0;
      made = same.1;
      seat = same.2;
      cut = ap (λ (b : Bool). b || (t.made == MAX_ADMISSIONS)) (seen-closed s t h);
      closed = λ e. seen-closed s t h;
    }
  where
    keeps-counts : (t s : SendSeatView) → t ≡ s → (t.kept ≡ s.kept) × (t.made ≡ s.made) × (admitted_of t ≡ admitted_of s)
    keeps-counts t s e = (ap (λ (v : SendSeatView). v.kept) e, ap (λ (v : SendSeatView). v.made) e, ap admitted_of e)
leaves refused.SeatSpent s t h = record {
  kept = ap (λ (v : SendSeatView). v.kept) h.2;
  made = ap (λ (v : SendSeatView). v.made) h.2;
  seat = ap admitted_of h.2;
  cut = or-last (is_closed t.seen) (t.made == MAX_ADMISSIONS) (eq-eqb t.made MAX_ADMISSIONS (ap (λ (v : SendSeatView). v.made) h.2 ∙ h.1));
  closed = λ e. ap (λ (v : SendSeatView). is_closed v.seen) h.2 ∙ e;
}
  where
    or-last : (a b : Bool) → b ≡ true → (a || b) ≡ true
    or-last true b e = refl
    or-last false b e = e

-- an admission is one more made and kept, of the same seat; one that is given up is kept no more
pub admits-seat : (s t : SendSeatView) → Admits s t → (t.kept ≡ s.kept + 1) × (t.made ≡ s.made + 1) × (admitted_of t ≡ admitted_of s)
admits-seat s t a = (ap (λ (v : SendSeatView). v.kept) a.counted, ap (λ (v : SendSeatView). v.made) a.counted, ap admitted_of a.counted)

pub less-seat : (s : SendSeatView) (seen : Status) → ((less_one s seen).kept ≡ s.kept - 1) × ((less_one s seen).made ≡ s.made) × (admitted_of (less_one s seen) ≡ admitted_of s)
less-seat s Accepting = (refl, refl, refl)
less-seat s Closing = (refl, refl, refl)
less-seat s Closed = (refl, refl, refl)

-- ---- what waits

own-entries : (way : ℕ) (token : AdmittedView) (xs : List Envelope) → filter (is_for way) (map (entry_for way token) xs) ≡ map (entry_for way token) xs
own-entries way token [] = refl
own-entries way token (x ∷ xs) = cond-true (way == way) _ _ (eq-eqb way way refl) ∙ ap (λ zs. entry_for way token x ∷ zs) (own-entries way token xs)

other-entries : (way y : ℕ) (token : AdmittedView) (xs : List Envelope) → y ≢ way → filter (is_for y) (map (entry_for way token) xs) ≡ []
other-entries way y token [] other = refl
other-entries way y token (x ∷ xs) other = cond-false (way == y) _ _ (ne_eqb way y (λ e. other (sym e))) ∙ other-entries way y token xs other

envelopes-back : (way : ℕ) (token : AdmittedView) (xs : List Envelope) → map (λ (e : Entry AdmittedView). e.envelope) (map (entry_for way token) xs) ≡ xs
envelopes-back way token [] = refl
envelopes-back way token (x ∷ xs) = ap (λ zs. x ∷ zs) (envelopes-back way token xs)

all-tokens : (way : ℕ) (token own : AdmittedView) (xs : List Envelope) → token ≡ own → All (λ (e : Entry AdmittedView). e.token ≡ own) (map (entry_for way token) xs)
all-tokens way token own [] is = All-nil (λ e. e.token ≡ own)
all-tokens way token own (x ∷ xs) is = All-cons (λ e. e.token ≡ own) (entry_for way token x) (map (entry_for way token) xs) is (all-tokens way token own xs is)

length-entries : (way : ℕ) (token : AdmittedView) (xs : List Envelope) → length (map (entry_for way token) xs) ≡ length xs
length-entries way token [] = refl
length-entries way token (x ∷ xs) = let h = length-entries way token xs in omega (arith, h)

-- where the token stays there, one more waits; where it comes back, none does
pub stays-one : (answer : Added) (x : Envelope) (token : AdmittedView) → handed_back answer x.lane.kind token ≡ None → length (added_items answer x) ≡ 1
stays-one added.Last x token e = refl
stays-one added.Refused x token e = by x.lane.kind refl e
  where
    by : (k : Kind) → x.lane.kind ≡ k → handed_back added.Refused k token ≡ None → length (stand_in x) ≡ 1
    by Data k e = ap (λ (zs : List Envelope). length zs) (stand_in-data x k)
    by Flags k e = absurd (none-some token (sym e))
stays-one added.Discarded x token e = absurd (none-some token (sym e))

pub back-none : (answer : Added) (x : Envelope) (token t : AdmittedView) → handed_back answer x.lane.kind token ≡ Some t → length (added_items answer x) ≡ 0
back-none added.Last x token t e = absurd (none-some t e)
back-none added.Refused x token t e = by x.lane.kind refl e
  where
    by : (k : Kind) → x.lane.kind ≡ k → handed_back added.Refused k token ≡ Some t → length (stand_in x) ≡ 0
    by Data k e = absurd (none-some t e)
    by Flags k e = ap (λ (zs : List Envelope). length zs) (stand_in-flags x k)
back-none added.Discarded x token t e = refl

-- ---- the calls

module _ (world : World) (os : List OutboxView) (w : WaitingView AdmittedView) (ts ws : List ℕ) (is : IsOutboxes world (record { outboxes = os; waiting = w; tried = ts; ways = ws })) (way : ℕ) (x : Envelope) where
  -- the target refuses: nothing waits but what did
  module _ (os' : List OutboxView) (b b' : OutboxView) (r : Replaces os os' way b b') (sends : b'.sends ≡ b.sends) (refusal : Refused) (seat : Refuses refusal b.seat b'.seat) where
    pub refused-hold : IsOutboxes world (record { outboxes = os'; waiting = w; tried = ts; ways = ws })
    refused-hold =
        let l = leaves refusal b.seat b'.seat seat in
        let own = is.each way b r.was in
        outboxes-hold world os os' w w way b b' is r is.entries is.holds refl
        (outbox-same world b b' (filter (is_for way) is.entries) own sends l.kept (let m = l.made in let n = own.made in omega (arith, m, n)) l.seat)
        (λ y other. refl) (let m = l.made in omega (arith, m))

    cut-off : (y : ℕ) (l : Lane) → is_cut (record { outboxes = os'; waiting = w; tried = ts; ways = ws }) y l ≡ false → y ≢ way
    cut-off y l goes e =
        both_ways (refuses (record { outboxes = os'; waiting = w; tried = ts; ways = ws }) way) (ap (λ k. refuses (record { outboxes = os'; waiting = w; tried = ts; ways = ws }) k) (sym e) ∙ (or_parts (has_stopped (stops_for w y) l) (refuses (record { outboxes = os'; waiting = w; tried = ts; ways = ws }) y) goes).1)
        (ap (λ o. option_map_or (λ (c : OutboxView). is_refused c.seat) o true) r.is ∙ (leaves refusal b.seat b'.seat seat).cut)

    pub refused-adds : Adds (record { outboxes = os; waiting = w; tried = ts; ways = ws }) way x (record { outboxes = os'; waiting = w; tried = ts; ways = ws })
    refused-adds = record {
      count = r.count;
      sends = on-some (λ (c : OutboxView). c.sends) os os' way b b' r sends;
      ways = refl;
      tried = refl;
      others = λ y other. (r.others y other, refl);
      cut = λ y l goes. ap (λ o. has_stopped (stops_for w y) l || option_map_or (λ (c : OutboxView). is_refused c.seat) o true) (sym (r.others y (cut-off y l goes))) ∙ goes;
      reached = λ y l goes.
          ap (λ o. past (option_map_or (λ (c : OutboxView). sent_at c.sends.send_counts l) o (record { next = 0; over = true })) (on l (waits_in w y))) (r.others y (cut-off y l goes))
          ∙ sym (cond-false ((y == way) && same_lane l x.lane) _ _ (ap (λ (b : Bool). b && same_lane l x.lane) (ne_eqb y way (cut-off y l goes))));
      closed = closed-on os os' w w way b b' r (leaves refusal b.seat b'.seat seat).closed;
      made = let m = r.made in let same = (leaves refusal b.seat b'.seat seat).made in omega (arith, m, same);
      placed = λ lanes among places. places;
    }

    pub refused-by : RefusedBy (record { outboxes = os; waiting = w; tried = ts; ways = ws }) way refusal (record { outboxes = os'; waiting = w; tried = ts; ways = ws })
    refused-by = record { waiting = refl; before = b; was = r.was; outbox = b'; is = r.is; seat = seat }

  -- It admits. What stays there has the admission; what comes back had it.
  module _ (os' : List OutboxView) (b b' : OutboxView) (r : Replaces os os' way b b') (sends : b'.sends ≡ b.sends) (open_before : is_refused b.seat ≡ false)
      (made : b'.seat.made ≡ b.seat.made + 1) (room : b.seat.made < MAX_ADMISSIONS) (same : admitted_of b'.seat ≡ admitted_of b.seat)
      (w' : WaitingView AdmittedView) (token : AdmittedView) (is_own : token ≡ admitted_of b.seat) (back : Option AdmittedView) (adds : WaitingAdds w way x token back w')
      (kept : b'.seat.kept ≡ b.seat.kept + length (added_items adds.answer x))
      (next : is_cut (record { outboxes = os; waiting = w; tried = ts; ways = ws }) way x.lane ≡ false → IsNext world (reached (record { outboxes = os; waiting = w; tried = ts; ways = ws }) way x.lane) x) where
    abbrev items : List Envelope
    items = added_items adds.answer x

    abbrev more : List (Entry AdmittedView)
    more = is.entries ++ map (entry_for way token) items

    waits-own : waits_in w way ≡ map (λ e. e.envelope) (filter (is_for way) is.entries)
    waits-own = waits-entries w is.entries is.holds way

    own-more : filter (is_for way) more ≡ filter (is_for way) is.entries ++ map (entry_for way token) items
    own-more = filter-append (is_for way) is.entries (map (entry_for way token) items) ∙ ap (λ zs. filter (is_for way) is.entries ++ zs) (own-entries way token items)

    envelopes-more : map (λ (e : Entry AdmittedView). e.envelope) (filter (is_for way) more) ≡ waits_in w way ++ items
    envelopes-more =
        ap (λ (zs : List (Entry AdmittedView)). map (λ e. e.envelope) zs) own-more
        ∙ map-append (λ (e : Entry AdmittedView). e.envelope) (filter (is_for way) is.entries) (map (entry_for way token) items)
        ∙ ap (λ zs. map (λ (e : Entry AdmittedView). e.envelope) (filter (is_for way) is.entries) ++ zs) (envelopes-back way token items)
        ∙ ap (λ zs. zs ++ items) (sym waits-own)

    waits-more : waits_in w' way ≡ waits_in w way ++ items
    waits-more = waits-entries w' more (adds.holds is.entries is.holds) way ∙ envelopes-more

    waits-other : (y : ℕ) → y ≢ way → waits_in w' y ≡ waits_in w y
    waits-other y other = ap (λ (o : Option (BacklogView (Stamp AdmittedView))). option_map_or (λ b. map (λ x. x.0) b.items) o []) (adds.others y other)

    stops-other : (y : ℕ) → y ≢ way → stops_for w' y ≡ stops_for w y
    stops-other y other = ap (λ (o : Option (BacklogView (Stamp AdmittedView))). option_map_or (λ b. b.stopped) o (no_stops 0)) (adds.others y other)

    sent-own : (l : Lane) → sent_to (record { outboxes = os; waiting = w; tried = ts; ways = ws }) way l ≡ sent_at b.sends.send_counts l
    sent-own l = ap (λ o. option_map_or (λ (c : OutboxView). sent_at c.sends.send_counts l) o (record { next = 0; over = true })) r.was

    refuses-own : refuses (record { outboxes = os; waiting = w; tried = ts; ways = ws }) way ≡ false
    refuses-own = ap (λ o. option_map_or (λ (c : OutboxView). is_refused c.seat) o true) r.was ∙ open_before

    next-own : has_stopped (stops_for w way) x.lane ≡ false → IsNext world (behind b.sends.send_counts (waits_in w way) x.lane) x
    next-own goes =
        subst (λ p. IsNext world (past p (on x.lane (waits_in w way))) x) (sent-own x.lane)
        (next (or_from (has_stopped (stops_for w way) x.lane) (refuses (record { outboxes = os; waiting = w; tried = ts; ways = ws }) way) goes refuses-own))

    own : IsOutbox world b (filter (is_for way) is.entries)
    own = is.each way b r.was

    are : AreBehind world b.sends.send_counts (waits_in w way)
    are = subst (λ zs. AreBehind world b.sends.send_counts zs) (sym waits-own) own.behind

    pub added-hold : IsOutboxes world (record { outboxes = os'; waiting = w'; tried = ts; ways = ws })
    added-hold = outboxes-hold world os os' w w' way b b' is r more (adds.holds is.entries is.holds) adds.targets
        (record {
          behind = subst (λ zs. AreBehind world b'.sends.send_counts zs) (sym envelopes-more)
              (subst (λ s. AreBehind world s.send_counts (waits_in w way ++ items)) (sym sends)
              (added-behind world b.sends.send_counts (waits_in w way) (stops_for w way) (stops_for w' way) x next-own adds.answer adds.stopped adds.discarded are));
          kept =
              let n = ap (λ (zs : List (Entry AdmittedView)). length zs) own-more ∙ length-append (filter (is_for way) is.entries) (map (entry_for way token) items) in
              let m = length-entries way token items in
              let k = own.kept in
              let p = ap (λ s. s.pushes) sends in omega (arith, n, m, k, p, kept);
          admitted = subst (λ (zs : List (Entry AdmittedView)). All (λ e. e.token ≡ admitted_of b'.seat) zs) (sym own-more)
              (All-append (λ e. e.token ≡ admitted_of b'.seat) (filter (is_for way) is.entries) (map (entry_for way token) items)
              (subst (λ a. All (λ e. e.token ≡ a) (filter (is_for way) is.entries)) (sym same) own.admitted)
              (all-tokens way token (admitted_of b'.seat) items (is_own ∙ sym same)));
          made = omega (arith, made, room);
        })
        (λ y other. filter-append (is_for y) is.entries (map (entry_for way token) items) ∙ ap (λ zs. filter (is_for y) is.entries ++ zs) (other-entries way y token items other) ∙ append-nil (filter (is_for y) is.entries))
        (let a = adds.added in omega (arith, a, made))

    pub added-adds : Adds (record { outboxes = os; waiting = w; tried = ts; ways = ws }) way x (record { outboxes = os'; waiting = w'; tried = ts; ways = ws })
    added-adds = record {
      count = r.count;
      sends = on-some (λ (c : OutboxView). c.sends) os os' way b b' r sends;
      ways = refl;
      tried = refl;
      others = λ y other. (r.others y other, adds.others y other);
      cut = λ y l goes.
          let parts = or_parts (has_stopped (stops_for w' y) l) (refuses (record { outboxes = os'; waiting = w'; tried = ts; ways = ws }) y) goes in
          ⊎_elim
          (λ (e : y ≡ way).
          or_from (has_stopped (stops_for w y) l) (refuses (record { outboxes = os; waiting = w; tried = ts; ways = ws }) y)
          (subst (λ k. has_stopped (stops_for w k) l ≡ false) (sym e) (stopped-more adds.answer (stops_for w way) x.lane l (sym (ap (λ s. has_stopped s l) adds.stopped) ∙ subst (λ k. has_stopped (stops_for w' k) l ≡ false) e parts.0)))
          (ap (λ k. refuses (record { outboxes = os; waiting = w; tried = ts; ways = ws }) k) e ∙ refuses-own))
          (λ (e : y ≡ way → ⊥).
          or_from (has_stopped (stops_for w y) l) (refuses (record { outboxes = os; waiting = w; tried = ts; ways = ws }) y)
          (ap (λ s. has_stopped s l) (sym (stops-other y e)) ∙ parts.0)
          (ap (λ o. option_map_or (λ (c : OutboxView). is_refused c.seat) o true) (sym (r.others y e)) ∙ parts.1))
          (cases_eq y way);
      reached = λ y l goes.
          let parts = or_parts (has_stopped (stops_for w' y) l) (refuses (record { outboxes = os'; waiting = w'; tried = ts; ways = ws }) y) goes in
          ⊎_elim
          (λ (e : y ≡ way).
          ap (λ k. reached (record { outboxes = os'; waiting = w'; tried = ts; ways = ws }) k l) e
          ∙ ap (λ p. past p (on l (waits_in w' way))) (ap (λ o. option_map_or (λ (c : OutboxView). sent_at c.sends.send_counts l) o (record { next = 0; over = true })) r.is ∙ ap (λ s. sent_at s.send_counts l) sends)
          ∙ ap (λ zs. behind b.sends.send_counts zs l) waits-more
          ∙ added-reached world b.sends.send_counts (waits_in w way) (stops_for w way) (stops_for w' way) x next-own adds.answer adds.stopped adds.discarded l (subst (λ k. has_stopped (stops_for w' k) l ≡ false) e parts.0)
          ∙ ap (λ p. cond (same_lane l x.lane) (after x) p) (ap (λ p. past p (on l (waits_in w way))) (sym (sent-own l)) ∙ ap (λ k. reached (record { outboxes = os; waiting = w; tried = ts; ways = ws }) k l) (sym e))
          ∙ ap (λ (c : Bool). cond (c && same_lane l x.lane) (after x) (reached (record { outboxes = os; waiting = w; tried = ts; ways = ws }) y l)) (sym (eq-eqb y way e)))
          (λ (e : y ≡ way → ⊥).
          ap (λ o. past (option_map_or (λ (c : OutboxView). sent_at c.sends.send_counts l) o (record { next = 0; over = true })) (on l (waits_in w' y))) (r.others y e)
          ∙ ap (λ zs. past (sent_to (record { outboxes = os; waiting = w; tried = ts; ways = ws }) y l) (on l zs)) (waits-other y e)
          ∙ ap (λ (c : Bool). cond (c && same_lane l x.lane) (after x) (reached (record { outboxes = os; waiting = w; tried = ts; ways = ws }) y l)) (sym (ne_eqb y way e)))
          (cases_eq y way);
      closed = closed-on os os' w w' way b b' r (λ e. absurd (both_ways (is_closed b.seat.seen) (or_parts (is_closed b.seat.seen) (b.seat.made == MAX_ADMISSIONS) open_before).0 e));
      made = let m = r.made in omega (arith, m, made);
      placed = λ lanes among places. subst (λ s. HasPlaces s lanes) (sym adds.stopped) (places-after adds.answer (stops_for w way) lanes x.lane places among);
    }

    pub added-comes : Comes (record { outboxes = os; waiting = w; tried = ts; ways = ws }) way x (record { outboxes = os'; waiting = w'; tried = ts; ways = ws })
    added-comes = record { answer = adds.answer; waits = waits-more; stopped = adds.stopped; discarded = adds.discarded; last = adds.last; admitted = token; youngest = λ entries holds. adds.holds entries holds }

-- ---- what the call did, whichever way it went

pub record Done (world : World) (o : OutboxesView) (way : ℕ) (x : Envelope) (o' : OutboxesView) : Type 0 where
  pub hold : IsOutboxes world o'
  pub adds : Adds o way x o'
  pub comes : Comes o way x o'

module _ (world : World) (os : List OutboxView) (w : WaitingView AdmittedView) (ts ws : List ℕ) (is : IsOutboxes world (record { outboxes = os; waiting = w; tried = ts; ways = ws })) (way : ℕ) (x : Envelope) (b a : OutboxView)
    (at : slice_get os way ≡ Some b) (same : a ≡ record b { seat = a.seat }) (admits : Admits b.seat a.seat) (w' : WaitingView AdmittedView) (token : AdmittedView) (is_own : token ≡ admitted_of b.seat)
    (next : is_cut (record { outboxes = os; waiting = w; tried = ts; ways = ws }) way x.lane ≡ false → IsNext world (reached (record { outboxes = os; waiting = w; tried = ts; ways = ws }) way x.lane) x) where
  -- the admission stays with what waits
  pub stays-done : (back : Option AdmittedView) → back ≡ None → WaitingAdds w way x token back w' → Done world (record { outboxes = os; waiting = w; tried = ts; ways = ws }) way x (record { outboxes = set os way a; waiting = w'; tried = ts; ways = ws })
  stays-done back none adds =
      let seat = admits-seat b.seat a.seat admits in
      let r = replaces-set os way b a at in
      let sends = ap (λ (o : OutboxView). o.sends) same in
      let goes = admits-goes b.seat a.seat admits in
      let kept : a.seat.kept ≡ b.seat.kept + length (added_items adds.answer x) = let one = stays-one adds.answer x token (sym adds.back ∙ none) in let k = seat.0 in omega (arith, one, k) in record {
        hold = added-hold world os w ts ws is way x (set os way a) b a r sends goes seat.1 admits.room seat.2 w' token is_own back adds kept next;
        adds = added-adds world os w ts ws is way x (set os way a) b a r sends goes seat.1 admits.room seat.2 w' token is_own back adds kept next;
        comes = added-comes world os w ts ws is way x (set os way a) b a r sends goes seat.1 admits.room seat.2 w' token is_own back adds kept next;
      }

  -- it came back, and was given up
  pub back-done : (back : Option AdmittedView) (t : AdmittedView) → back ≡ Some t → WaitingAdds w way x token back w' → (d c : OutboxView) → slice_get (set os way a) way ≡ Some d → (seen : Status)
      → c ≡ record d { seat = less_one d.seat seen } → Done world (record { outboxes = os; waiting = w; tried = ts; ways = ws }) way x (record { outboxes = set (set os way a) way c; waiting = w'; tried = ts; ways = ws })
  back-done back t some adds d c now seen less =
      let first = replaces-set os way b a at in
      let e : a ≡ d = same_Some a d (sym first.is ∙ now) in
      let r = replaces-then os (set os way a) (set (set os way a) way c) way b a d c first (replaces-set (set os way a) way d c now) in
      let seat = admits-seat b.seat a.seat admits in
      let gave = less-seat d.seat seen in
      let is_seat = ap (λ (o : OutboxView). o.seat) less in
      let sends = ap (λ (o : OutboxView). o.sends) less ∙ ap (λ (o : OutboxView). o.sends) (sym e) ∙ ap (λ (o : OutboxView). o.sends) same in
      let goes = admits-goes b.seat a.seat admits in
      let made : c.seat.made ≡ b.seat.made + 1 = ap (λ (s : SendSeatView). s.made) is_seat ∙ gave.1 ∙ ap (λ (o : OutboxView). o.seat.made) (sym e) ∙ seat.1 in
      let own : admitted_of c.seat ≡ admitted_of b.seat = ap admitted_of is_seat ∙ gave.2 ∙ ap (λ (o : OutboxView). admitted_of o.seat) (sym e) ∙ seat.2 in
      let kept : c.seat.kept ≡ b.seat.kept + length (added_items adds.answer x) =
      let none = back-none adds.answer x token t (sym adds.back ∙ some) in
      let k = seat.0 in
      let m = ap (λ (o : OutboxView). o.seat.kept) e in
      let n = ap (λ (s : SendSeatView). s.kept) is_seat ∙ gave.0 in omega (arith, none, k, m, n) in record {
        hold = added-hold world os w ts ws is way x (set (set os way a) way c) b c r sends goes made admits.room own w' token is_own back adds kept next;
        adds = added-adds world os w ts ws is way x (set (set os way a) way c) b c r sends goes made admits.room own w' token is_own back adds kept next;
        comes = added-comes world os w ts ws is way x (set (set os way a) way c) b c r sends goes made admits.room own w' token is_own back adds kept next;
      }

-- a target that has refused an envelope as closed was seen closed
pub refused-some : (o o' : OutboxesView) (way : ℕ) → RefusedBy o way refused.Closed o' → SomeClosed o'
refused-some o o' way r = record { way = way; outbox = r.outbox; is = r.is; closed = seen-closed r.before.seat r.outbox.seat r.seat }
