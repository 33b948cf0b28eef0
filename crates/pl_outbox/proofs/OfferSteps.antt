-- The first that waits at a way is offered to its queue.
use Rattle.std.proofs.Common.{◌≡◌, ◌≢◌, ℕ, Bool, true, false, ◌||◌, List, [], ◌∷◌, length, map, set, slice_get, Option, Some, None, refl, ap, sym, ◌∙◌, subst, ⊎_elim, arith}
use Rattle.std.specs.List.{All, filter, find, position, remove}
use Rattle.std.specs.Option.{option_map, option_map_or}
use Rattle.std.proofs.lemmas.Bool.{cases_eq, ne_eqb}
use Rattle.std.proofs.lemmas.List.{set-get_or}
use Rattle.std.proofs.lemmas.List.Elements.{All-tail}
use Rattle.std.proofs.lemmas.Option.{slice_get_within, get_or_from_slice_get, none-some}
use Rattle.pl_event.specs.declared.envelopes.Envelope.{Envelope}
use Rattle.pl_event.specs.Worlds.{World}
use Rattle.pl_event.proofs.Lists.{slice_get_none, in-front}
use Rattle.pl_context.specs.Stops.{has_stopped}
use Rattle.pl_context.specs.WaitingViews.{WaitingView, Entry, Holds, Takes, is_for, stops_for}
use Rattle.pl_context.proofs.Firsts.{position-first, find-first, find-filter, filter-remove_first, filter-remove_other, find-Some-position}
use Rattle.pl_context.proofs.WaitingCalls.{none-long}
use Rattle.pl_queue.specs.Views.{sent_of, after_offer}
use Rattle.pl_words.specs.Admissions.{AdmittedView, SendSeatView, admitted_of}
use Rattle.pl_flow.specs.Flows.{IsGood, on, past}
use Rattle.pl_outbox.specs.Sent.{sent_at, AreBehind, behind}
use Rattle.pl_outbox.specs.OutboxViews.{OutboxView, IsOutboxes, waits_in, sent_to, reached, is_closed, is_refused, refuses, Sends, KeepsAll, Stays, Forgets}
use Rattle.pl_outbox.proofs.SentLemmas.{front-sent, front-leaves, front-behind}
use Rattle.pl_outbox.proofs.OutboxLemmas.{Replaces, replaces-set, on-way, closed-on, waits-entries, outboxes-hold}

none-passes : {X : Type 0} (p : X → Bool) (xs : List X) → position p xs ≡ None → filter p xs ≡ []
none-passes {X} p xs none = none-long (filter p xs) (let h = slice_get_none (filter p xs) 0 (sym (find-filter p xs) ∙ by (find p xs) refl) in omega (arith, h))
  where
    by : (o : Option X) → find p xs ≡ o → o ≡ None
    by None is = refl
    by (Some y) is = let f = find-Some-position p xs y is in absurd (none-some f.0 (sym none ∙ f.1))

pub set-back : {A : Type 0} (xs : List A) (i : ℕ) (x : A) → slice_get xs i ≡ Some x → set xs i x ≡ xs
set-back xs i x at = ap (λ y. set xs i y) (sym (get_or_from_slice_get xs i x x at)) ∙ set-get_or xs i x

module _ (world : World) (os : List OutboxView) (w : WaitingView AdmittedView) (ts ws : List ℕ) (is : IsOutboxes world (record { outboxes = os; waiting = w; tried = ts; ways = ws })) (way : ℕ) where
  -- ---- nothing waits

  module _ (w' : WaitingView AdmittedView) (takes : Takes w is.entries way None w') where
    pub nothing-waits : waits_in w way ≡ []
    nothing-waits = waits-entries w is.entries is.holds way ∙ ap (map (λ e. e.envelope)) (none-passes (is_for way) is.entries takes.taken.0)

  -- ---- the first is taken

  module _ (x : Envelope) (token : AdmittedView) (w' : WaitingView AdmittedView) (takes : Takes w is.entries way (Some (x, token)) w') where
    abbrev i : ℕ
    i = takes.taken.0

    abbrev own : List (Entry AdmittedView)
    own = filter (is_for way) is.entries

    abbrev rest : List (Entry AdmittedView)
    rest = filter (is_for way) (remove is.entries i)

    abbrev entry : Entry AdmittedView
    entry = record { target = way; envelope = x; token = token }

    own-front : own ≡ entry ∷ rest
    own-front =
        let first = position-first (is_for way) is.entries i takes.taken.1 in
        in-front own rest entry (sym (find-filter (is_for way) is.entries) ∙ find-first (is_for way) is.entries i first ∙ takes.taken.2) (filter-remove_first (is_for way) is.entries i first)

    others-rest : (y : ℕ) → y ≢ way → filter (is_for y) (remove is.entries i) ≡ filter (is_for y) is.entries
    others-rest y other =
        filter-remove_other (is_for y) is.entries i (slice_get_within is.entries i entry takes.taken.2)
        (λ d. ap (λ (e : Entry AdmittedView). is_for y e) (get_or_from_slice_get is.entries i entry d takes.taken.2) ∙ ne_eqb way y (λ e. other (sym e)))

    waits-own : waits_in w way ≡ x ∷ map (λ e. e.envelope) rest
    waits-own = waits-entries w is.entries is.holds way ∙ ap (map (λ e. e.envelope)) own-front

    -- it is the sender's next
    pub may-offer : (b : OutboxView) → slice_get os way ≡ Some b → (sent_of x.lane b.sends.send_counts ≡ Some (x.number, false)) × IsGood world x
    may-offer b at =
        front-sent world b.sends.send_counts x (map (λ e. e.envelope) rest)
        (subst (λ (zs : List (Entry AdmittedView)). AreBehind world b.sends.send_counts (map (λ e. e.envelope) zs)) own-front (is.each way b at).behind)

    -- ---- it is sent

    module _ (b b' : OutboxView) (at : slice_get os way ≡ Some b) (same : b' ≡ record b { sends = after_offer b.sends x }) (added : w'.added ≡ w.added) where
      r : Replaces os (set os way b') way b b'
      r = replaces-set os way b b' at

      are : AreBehind world b.sends.send_counts (x ∷ map (λ e. e.envelope) rest)
      are = subst (λ (zs : List (Entry AdmittedView)). AreBehind world b.sends.send_counts (map (λ e. e.envelope) zs)) own-front (is.each way b at).behind

      is_seat : b'.seat ≡ b.seat
      is_seat = ap (λ (o : OutboxView). o.seat) same

      is_sends : b'.sends ≡ after_offer b.sends x
      is_sends = ap (λ (o : OutboxView). o.sends) same

      waits-rest : waits_in w' way ≡ map (λ e. e.envelope) rest
      waits-rest = waits-entries w' (remove is.entries i) takes.taken.3 way

      waits-other : (y : ℕ) → y ≢ way → waits_in w' y ≡ waits_in w y
      waits-other y other =
          waits-entries w' (remove is.entries i) takes.taken.3 y ∙ ap (map (λ e. e.envelope)) (others-rest y other) ∙ sym (waits-entries w is.entries is.holds y)

      pub handed-hold : IsOutboxes world (record { outboxes = set os way b'; waiting = w'; tried = ts; ways = ws })
      handed-hold =
          let outbox = is.each way b at in
          outboxes-hold world os (set os way b') w w' way b b' is r (remove is.entries i) takes.taken.3 takes.targets
          (record {
            behind = subst (λ s. AreBehind world s.send_counts (map (λ e. e.envelope) rest)) (sym is_sends) (front-leaves world b.sends.send_counts x (map (λ e. e.envelope) rest) are);
            kept =
                let k = outbox.kept in
                let n = ap (λ (zs : List (Entry AdmittedView)). length zs) own-front in
                let p = ap (λ s. s.pushes) is_sends in
                let s = ap (λ s. s.kept) is_seat in omega (arith, k, n, p, s);
            admitted = subst (λ a. All (λ e. e.token ≡ a) rest) (sym (ap admitted_of is_seat))
                (All-tail (λ e. e.token ≡ admitted_of b.seat) entry rest (subst (λ (zs : List (Entry AdmittedView)). All (λ e. e.token ≡ admitted_of b.seat) zs) own-front outbox.admitted));
            made = let m = outbox.made in let s = ap (λ s. s.made) is_seat in omega (arith, m, s);
          })
          others-rest (let s = ap (λ s. s.made) is_seat in omega (arith, added, s))

      pub handed-sends : ((entries : List (Entry AdmittedView)) → Holds w entries → Takes w entries way (Some (x, token)) w')
          → Sends (record { outboxes = os; waiting = w; tried = ts; ways = ws }) way (record { outboxes = set os way b'; waiting = w'; tried = ts; ways = ws })
      handed-sends first = record {
        envelope = x;
        waits = waits-own ∙ ap (λ zs. x ∷ zs) (sym waits-rest);
        sends = ap (option_map (λ (o : OutboxView). o.sends)) r.is ∙ ap (λ s. Some s) is_sends ∙ sym (ap (λ (o : Option OutboxView). option_map (λ s. after_offer s x) (option_map (λ b. b.sends) o)) at);
        others = λ y other. record { waits = waits-other y other; sends = ap (option_map (λ (o : OutboxView). o.sends)) (r.others y other) };
        rest = λ entries holds. let t = (first entries holds).taken in (t.0, t.1, t.3);
      }

      pub handed-stays : Stays (record { outboxes = os; waiting = w; tried = ts; ways = ws }) (record { outboxes = set os way b'; waiting = w'; tried = ts; ways = ws })
      handed-stays = record {
        count = r.count;
        ways = refl;
        reached = λ y l. ⊎_elim
            (λ (e : y ≡ way).
            ap (λ k. reached (record { outboxes = set os way b'; waiting = w'; tried = ts; ways = ws }) k l) e
            ∙ ap (λ o. past (option_map_or (λ (c : OutboxView). sent_at c.sends.send_counts l) o (record { next = 0; over = true })) (on l (waits_in w' way))) r.is
            ∙ ap (λ s. past (sent_at s.send_counts l) (on l (waits_in w' way))) is_sends
            ∙ ap (λ zs. behind (after_offer b.sends x).send_counts zs l) waits-rest
            ∙ front-behind world b.sends.send_counts x (map (λ e. e.envelope) rest) are l
            ∙ ap (λ zs. behind b.sends.send_counts zs l) (sym waits-own)
            ∙ ap (λ o. past (option_map_or (λ (c : OutboxView). sent_at c.sends.send_counts l) o (record { next = 0; over = true })) (on l (waits_in w way))) (sym at)
            ∙ ap (λ k. reached (record { outboxes = os; waiting = w; tried = ts; ways = ws }) k l) (sym e))
            (λ (e : y ≡ way → ⊥).
            ap (λ o. past (option_map_or (λ (c : OutboxView). sent_at c.sends.send_counts l) o (record { next = 0; over = true })) (on l (waits_in w' y))) (r.others y e)
            ∙ ap (λ zs. past (option_map_or (λ (c : OutboxView). sent_at c.sends.send_counts l) (slice_get os y) (record { next = 0; over = true })) (on l zs)) (waits-other y e))
            (cases_eq y way);
        cut = λ y l.
            ap (λ s. has_stopped s l || option_map_or (λ (c : OutboxView). is_refused c.seat) (slice_get (set os way b') y) true) (takes.stopped y)
            ∙ ap (λ c. has_stopped (stops_for w y) l || c) (on-way (λ (c : OutboxView). is_refused c.seat) true os (set os way b') way b b' r (ap is_refused is_seat) y);
        stops = takes.stopped;
        closed = closed-on os (set os way b') w w' way b b' r (λ e. ap (λ (s : SendSeatView). is_closed s.seen) is_seat ∙ e);
        made = let m = r.made in let same = ap (λ (s : SendSeatView). s.made) is_seat in omega (arith, m, same);
      }

  -- ---- its queue was full, and it was put back

  module _ (w' : WaitingView AdmittedView) (ts' : List ℕ) (back : (entries : List (Entry AdmittedView)) → Holds w entries → Holds w' entries) (added : w'.added ≡ w.added)
      (stops : (y : ℕ) → stops_for w' y ≡ stops_for w y) (targets : length w'.targets ≡ length w.targets) where
    waits-same : (y : ℕ) → waits_in w' y ≡ waits_in w y
    waits-same y = waits-entries w' is.entries (back is.entries is.holds) y ∙ sym (waits-entries w is.entries is.holds y)

    pub full-hold : IsOutboxes world (record { outboxes = os; waiting = w'; tried = ts'; ways = ws })
    full-hold = record {
      entries = is.entries;
      holds = back is.entries is.holds;
      each = is.each;
      targets = targets ∙ is.targets;
      added = let a = is.added in omega (arith, a, added);
      few = is.few;
    }

    pub full-keeps : KeepsAll (record { outboxes = os; waiting = w; tried = ts; ways = ws }) (record { outboxes = os; waiting = w'; tried = ts'; ways = ws })
    full-keeps = record { each = λ y. record { waits = waits-same y; sends = refl }; holds = back }

    pub full-stays : Stays (record { outboxes = os; waiting = w; tried = ts; ways = ws }) (record { outboxes = os; waiting = w'; tried = ts'; ways = ws })
    full-stays = record {
      count = refl;
      ways = refl;
      reached = λ y l. ap (λ zs. past (sent_to (record { outboxes = os; waiting = w; tried = ts; ways = ws }) y l) (on l zs)) (waits-same y);
      cut = λ y l. ap (λ s. has_stopped s l || refuses (record { outboxes = os; waiting = w; tried = ts; ways = ws }) y) (stops y);
      stops = stops;
      closed = λ s. record { way = s.way; outbox = s.outbox; is = s.is; closed = s.closed };
      made = refl;
    }

-- ---- what was tried is forgotten

pub forgets : (os : List OutboxView) (w : WaitingView AdmittedView) (ts ts' ws : List ℕ) → Forgets (record { outboxes = os; waiting = w; tried = ts; ways = ws }) (record { outboxes = os; waiting = w; tried = ts'; ways = ws })
forgets os w ts ts' ws = record {
  waiting = refl;
  same = λ y. record { waits = refl; sends = refl };
  stays = record { count = refl; ways = refl; reached = λ y l. refl; cut = λ y l. refl; stops = λ y. refl; closed = λ s. record { way = s.way; outbox = s.outbox; is = s.is; closed = s.closed }; made = refl };
}
