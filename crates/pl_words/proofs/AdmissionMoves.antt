-- Each step of an admission keeps the rule.
use Rattle.std.proofs.Common.{◌≡◌, ◌≢◌, ℕ, zero, suc, ◌+◌, ◌-◌, ◌*◌, ◌/◌, ◌%◌, ◌^◌, ◌<◌, ◌≤◌, ◌⊎◌, ◌==◌, eq-eqb, ne_eqb, true, false, List, [], ◌∷◌, ◌++◌, get_or, set, sym, refl, ap, ◌∙◌, subst, inl, inr, ⊎_elim, arith, length-set, get_or-set_same}
use mathlib.Core.Option.{none, some}
use lib.ListN.{get_elem?}
use lib.Bits.{bit_or}
use mathlib.Core.Logic.{dite}
use native.Mathlib.Decide.{ℕ_discrete}
use prog.Atomic.{either}
use Rattle.std.proofs.lemmas.Nat.{or_block, or_comm}
use Rattle.atomic_table.specs.Table.{State, step, keeps, Allows, Splits, Joins, Final, Seen}
use Rattle.atomic_table.proofs.Lists.{at_set, at_snoc}
use Rattle.pl_words.specs.declared.status.Status.{Status}
use Rattle.pl_words.specs.declared.status.Status.TheVariants.{Accepting, Closing, Closed}
use Rattle.pl_words.specs.declared.admission_steps.AdmissionNotes.{AdmissionNotes}
use Rattle.pl_words.specs.Phases.{rank, phase_of_bits, phase_in, begun}
use Rattle.pl_words.specs.AdmissionRule.{total, seats_of, kept_and_trial, run_given, IsSeat, IsAdmission, Sits, Rule, tried, given_up, Tried, TakenBack, Looked, GivenUp, Begun, Finished, owner_notes, fresh_notes, sender_notes, spent_notes, without_seat, gathered}
use Rattle.pl_words.proofs.AdmissionSums.{total_set, total_set_snoc, total_set_both, total_bound, total_least, total_whole, total_same}

-- Phases

pub phase_in-word : (k : ℕ) (p : Status) → phase_in (4 * k + rank p) ≡ p
phase_in-word k Accepting = let e : (4 * k + 0) % 4 ≡ 0 = omega arith in ap phase_of_bits e
phase_in-word k Closing = let e : (4 * k + 1) % 4 ≡ 1 = omega arith in ap phase_of_bits e
phase_in-word k Closed = let e : (4 * k + 3) % 4 ≡ 3 = omega arith in ap phase_of_bits e

rank-small : (p : Status) → rank p ≤ 3
rank-small Accepting = omega arith
rank-small Closing = omega arith
rank-small Closed = omega arith

rank-top : (p : Status) → 3 ≤ rank p → p ≡ Closed
rank-top Accepting h = absurd (omega arith)
rank-top Closing h = absurd (omega arith)
rank-top Closed h = refl

rank-begun : (p : Status) → rank p ≤ rank (begun p)
rank-begun Accepting = omega arith
rank-begun Closing = omega arith
rank-begun Closed = omega arith

begun-closed : (p : Status) → begun p ≡ Closed → p ≡ Closed
begun-closed Accepting e = cc
begun-closed Closing e = cc
begun-closed Closed e = refl

accepting-unclosed : Accepting ≢ Closed
accepting-unclosed e = cc

closing-unclosed : Closing ≢ Closed
closing-unclosed e = cc

no_owner : false ≢ true
no_owner e = cc

-- Seats

-- a seat that has seen closed is not ahead of the owner
pub saw_closed : {owner run by : ℕ} {v : AdmissionNotes} (phase : Status) → IsSeat owner phase run by v → v.seen ≡ Closed → phase ≡ Closed
saw_closed {v = v} phase f e = rank-top phase (let h = f.seen in let z : rank v.seen ≡ 3 = ap rank e in omega arith)

-- before the word is closed there is no trial, and nobody is late
none_late : {owner run by : ℕ} {v : AdmissionNotes} (phase : Status) → IsSeat owner phase run by v → phase ≢ Closed → (v.trial ≡ 0) × (v.late ≡ 0)
none_late {v = v} phase f unclosed = (go v.trial (λ h. f.late (omega arith)), go v.late (λ h. f.late (omega arith)))
  where
    go : (k : ℕ) → (0 < k → v.seen ≡ Closed) → k ≡ 0
    go zero h = refl
    go (suc k) h = absurd (unclosed (saw_closed phase f (h (omega arith))))

-- what holds of a seat, under other names for it
same_seat : {owner run by j : ℕ} {phase : Status} {w u : AdmissionNotes} → j ≡ by → w ≡ u → IsSeat owner phase run by w → IsSeat owner phase run j u
same_seat {owner} {run} {phase = phase} a b = subst (λ (z : ℕ × AdmissionNotes). IsSeat owner phase run z.0 z.1) (λ i. (sym a i, b i))

-- seats that made no step
fresh : (owner run by seats : ℕ) (phase : Status) → IsSeat owner phase run by (fresh_notes seats)
fresh owner run by seats phase = record { owns = λ e. absurd (no_owner e); counts = omega arith; made = omega arith; trial = omega arith; seen = omega arith; late = λ h. absurd (omega arith) }

-- The word

-- the phase that the word has is the owner's
pub finds : {senders : ℕ} {words : List ℕ} {notes : List AdmissionNotes} (r : IsAdmission senders words notes) → phase_in (get_or words 0 0) ≡ r.phase
finds {senders} {words} {notes} r = ap phase_in r.word ∙ phase_in-word (total kept_and_trial notes) r.phase

-- the word is far from its end
word-small : (senders : ℕ) (words : List ℕ) (notes : List AdmissionNotes) (r : IsAdmission senders words notes) → get_or words 0 0 < 9223372036854775808
word-small senders words notes r =
    let all : total kept_and_trial notes ≤ total seats_of notes * 35184372088832 = total_bound kept_and_trial notes (λ by v at. let f = r.each by v at in let a = f.counts in let b = f.made in let c = f.trial in omega arith) in
    let seats = r.seats in
    let few = r.few in
    let word = r.word in
    let small = rank-small r.phase in
    omega arith

-- a seat's own count is in the word
word-least : {senders : ℕ} {words : List ℕ} {notes : List AdmissionNotes} (r : IsAdmission senders words notes) (by : ℕ) (v : AdmissionNotes) → get_elem? notes by ≡ some v → 4 * kept_and_trial v ≤ get_or words 0 0
word-least {notes = notes} r by v at =
    let least = total_least kept_and_trial notes by v at in
    let word = r.word in
    omega arith

-- no seat has seen a later phase than the word has
seen-found : {senders : ℕ} {words : List ℕ} {notes : List AdmissionNotes} (r : IsAdmission senders words notes) (by : ℕ) (v : AdmissionNotes) → get_elem? notes by ≡ some v → rank v.seen ≤ rank (phase_in (get_or words 0 0))
seen-found r by v at =
    let seen = (r.each by v at).seen in
    omega (arith, ap rank (finds r))

-- the seat `by` makes a step, from the notes v to the notes w
moves : (senders : ℕ) (words : List ℕ) (notes : List AdmissionNotes) (r : IsAdmission senders words notes) (by : ℕ) (v w : AdmissionNotes) (x : ℕ) (phase : Status) (run : ℕ)
    → get_elem? notes by ≡ some v
    → w.seats ≡ v.seats
    → IsSeat r.owner phase run by w
    → ((at : ℕ) (u : AdmissionNotes) → at ≢ by → IsSeat r.owner r.phase r.run at u → IsSeat r.owner phase run at u)
    → x ≡ 4 * total kept_and_trial (set notes by w) + rank phase
    → (phase ≡ Closed → total run_given (set notes by w) ≡ run)
    → IsAdmission senders (set words 0 x) (set notes by w)
moves senders words notes r by v w x phase run at same fits others is closed = record {
  owner = r.owner;
  phase = phase;
  run = run;
  few = r.few;
  one = length-set words 0 x ∙ r.one;
  seats = let s = total_set seats_of notes by v w at in let t = r.seats in omega arith;
  word = (let one = r.one in get_or-set_same words 0 x 0 (omega arith)) ∙ is;
  each = λ j u e. ⊎_elim (λ t. same_seat t.0 t.1 fits) (λ t. others j u t.0 (r.each j u t.1)) (at_set notes by j w u e);
  closed = closed;
}

-- the same where the phase stays
stays : (senders : ℕ) (words : List ℕ) (notes : List AdmissionNotes) (r : IsAdmission senders words notes) (by : ℕ) (v w : AdmissionNotes) (x : ℕ)
    → get_elem? notes by ≡ some v
    → w.seats ≡ v.seats
    → IsSeat r.owner r.phase r.run by w
    → x + 4 * kept_and_trial v ≡ get_or words 0 0 + 4 * kept_and_trial w
    → run_given w ≡ run_given v ⊎ (r.phase ≢ Closed)
    → IsAdmission senders (set words 0 x) (set notes by w)
stays senders words notes r by v w x at same fits is gives =
    let sum = total_set kept_and_trial notes by v w at in
    let sum' = total_set run_given notes by v w at in
    let word = r.word in
    moves senders words notes r by v w x r.phase r.run at same fits (λ j u n h. h) (omega arith)
    (⊎_elim (λ (e : run_given w ≡ run_given v). λ (c : r.phase ≡ Closed). let z = r.closed c in omega arith) (λ (n : r.phase ≢ Closed). λ (c : r.phase ≡ Closed). absurd (n c)) gives)

-- Senders

pub looks : (senders slots id : ℕ) (me : Sits) → Allows (Rule senders) slots id me 0 (λ n. n) (Looked (step slots 0 0 0 none) me)
looks senders slots id me s r _ at _ =
    let v : AdmissionNotes = me.0 in
    let n : ℕ = get_or s.words 0 0 in
    let f = r.each id v at in
    let p : phase_in n ≡ r.phase = finds r in
    let pr : rank (phase_in n) ≡ rank r.phase = ap rank p in
    let w : AdmissionNotes = record v { seen = phase_in n; steps = v.steps + 1 } in
    let fits : IsSeat r.owner r.phase r.run id w = record { owns = f.owns; counts = f.counts; made = f.made; trial = f.trial; seen = omega arith; late = λ h. p ∙ saw_closed r.phase f (f.late h) } in
    (w, keeps, tt, stays senders s.words s.views r id v w n at refl fits refl (inl refl), (refl, seen-found r id v at))

-- an addition that did not find the word closed
admits : (senders : ℕ) (s : State (Unit {0}) AdmissionNotes) (r : Rule senders s) (id : ℕ) (v : AdmissionNotes) → get_elem? s.views id ≡ some v → v.seats ≡ 1 → v.made < 35184372088831
    → (p : Status) → r.phase ≡ p → p ≢ Closed
    → IsAdmission senders (set s.words 0 ((get_or s.words 0 0 + 4) % 18446744073709551616)) (set s.views id (record v { made = v.made + 1; kept = v.kept + 1; seen = p; steps = v.steps + 1 }))
admits senders s r id v at one few p is not_closed =
    let n : ℕ = get_or s.words 0 0 in
    let f = r.each id v at in
    let small : n < 9223372036854775808 = word-small senders s.words s.views r in
    let w : AdmissionNotes = record v { made = v.made + 1; kept = v.kept + 1; seen = p; steps = v.steps + 1 } in
    let counts = f.counts in
    let unclosed : r.phase ≢ Closed = λ c. not_closed (sym is ∙ c) in
    let none_yet = none_late r.phase f unclosed in
    let rk : rank r.phase ≡ rank p = ap rank is in
    let fits : IsSeat r.owner r.phase r.run id w = record { owns = f.owns; counts = omega arith; made = omega arith; trial = f.trial; seen = omega arith; late = λ h. absurd (omega (arith, h, none_yet.0, none_yet.1)) } in
    stays senders s.words s.views r id v w ((n + 4) % 18446744073709551616) at refl fits (omega arith) (inr unclosed)

-- an addition, by the phase that it found; one that found the word closed is a trial
tries_at : (senders : ℕ) (s : State (Unit {0}) AdmissionNotes) (r : Rule senders s) (id : ℕ) (v : AdmissionNotes) → get_elem? s.views id ≡ some v → v.trial ≡ 0 → v.seats ≡ 1 → v.made < 35184372088831
    → (p : Status) → r.phase ≡ p → IsAdmission senders (set s.words 0 ((get_or s.words 0 0 + 4) % 18446744073709551616)) (set s.views id (tried v p))
tries_at senders s r id v at idle one few Accepting is = admits senders s r id v at one few Accepting is accepting-unclosed
tries_at senders s r id v at idle one few Closing is = admits senders s r id v at one few Closing is closing-unclosed
tries_at senders s r id v at idle one few Closed is =
    let n : ℕ = get_or s.words 0 0 in
    let f = r.each id v at in
    let small : n < 9223372036854775808 = word-small senders s.words s.views r in
    let w : AdmissionNotes = tried v Closed in
    let rk : rank r.phase ≡ 3 = ap rank is in
    let fits : IsSeat r.owner r.phase r.run id w = record { owns = f.owns; counts = f.counts; made = f.made; trial = omega arith; seen = omega arith; late = λ h. refl } in
    stays senders s.words s.views r id v w ((n + 4) % 18446744073709551616) at refl fits (omega arith) (inl refl)

pub tries : (senders slots id : ℕ) (me : Sits) → me.0.trial ≡ 0 → me.0.seats ≡ 1 → me.0.made < 35184372088831
    → Allows (Rule senders) slots id me 0 (λ n. (n + 4) % 2 ^ 64) (Tried (step slots 0 4 0 none) me)
tries senders slots id me idle one few s r _ at _ =
    let v : AdmissionNotes = me.0 in
    let n : ℕ = get_or s.words 0 0 in
    let p : phase_in n ≡ r.phase = finds r in
    (tried v (phase_in n), keeps, tt, tries_at senders s r id v at idle one few (phase_in n) (sym p), (refl, seen-found r id v at))

-- a trial is taken back
pub takes_back : (senders slots id : ℕ) (me : Sits) → me.0.trial ≡ 1
    → Allows (Rule senders) slots id me 0 (λ n. (n + (2 ^ 64 - 4)) % 2 ^ 64) (TakenBack (step slots 0 4 0 none) me)
takes_back senders slots id me one s r _ at small =
    let v : AdmissionNotes = me.0 in
    let n : ℕ = get_or s.words 0 0 in
    let f = r.each id v at in
    let w : AdmissionNotes = record v { trial = 0; steps = v.steps + 1 } in
    let least = word-least r id v at in
    let fits : IsSeat r.owner r.phase r.run id w = record { owns = f.owns; counts = f.counts; made = f.made; trial = omega arith; seen = f.seen; late = λ h. f.late (omega arith) } in
    (w, keeps, tt, stays senders s.words s.views r id v w ((n + 18446744073709551612) % 18446744073709551616) at refl fits (omega arith) (inl refl), refl)

-- an admission given up by a step that did not find the word closed
gives_back : (senders : ℕ) (s : State (Unit {0}) AdmissionNotes) (r : Rule senders s) (id : ℕ) (v : AdmissionNotes) → get_elem? s.views id ≡ some v → 0 < v.kept → get_or s.words 0 0 < 18446744073709551616
    → (p : Status) → r.phase ≡ p → p ≢ Closed
    → IsAdmission senders (set s.words 0 ((get_or s.words 0 0 + 18446744073709551612) % 18446744073709551616)) (set s.views id (record v { kept = v.kept - 1; seen = p; steps = v.steps + 1 }))
gives_back senders s r id v at some_kept small p is not_closed =
    let n : ℕ = get_or s.words 0 0 in
    let f = r.each id v at in
    let w : AdmissionNotes = record v { kept = v.kept - 1; seen = p; steps = v.steps + 1 } in
    let least = word-least r id v at in
    let counts = f.counts in
    let unclosed : r.phase ≢ Closed = λ c. not_closed (sym is ∙ c) in
    let none_yet = none_late r.phase f unclosed in
    let rk : rank r.phase ≡ rank p = ap rank is in
    let fits : IsSeat r.owner r.phase r.run id w = record { owns = f.owns; counts = omega arith; made = f.made; trial = f.trial; seen = omega arith; late = λ h. absurd (omega (arith, h, none_yet.0, none_yet.1)) } in
    stays senders s.words s.views r id v w ((n + 18446744073709551612) % 18446744073709551616) at refl fits (omega arith) (inr unclosed)

-- an admission given up, by the phase that the step found; it is late where the word was closed
gives_up_at : (senders : ℕ) (s : State (Unit {0}) AdmissionNotes) (r : Rule senders s) (id : ℕ) (v : AdmissionNotes) → get_elem? s.views id ≡ some v → 0 < v.kept → get_or s.words 0 0 < 18446744073709551616
    → (p : Status) → r.phase ≡ p → IsAdmission senders (set s.words 0 ((get_or s.words 0 0 + 18446744073709551612) % 18446744073709551616)) (set s.views id (given_up v p))
gives_up_at senders s r id v at some_kept small Accepting is = gives_back senders s r id v at some_kept small Accepting is accepting-unclosed
gives_up_at senders s r id v at some_kept small Closing is = gives_back senders s r id v at some_kept small Closing is closing-unclosed
gives_up_at senders s r id v at some_kept small Closed is =
    let n : ℕ = get_or s.words 0 0 in
    let f = r.each id v at in
    let w : AdmissionNotes = given_up v Closed in
    let least = word-least r id v at in
    let counts = f.counts in
    let rk : rank r.phase ≡ 3 = ap rank is in
    let fits : IsSeat r.owner r.phase r.run id w = record { owns = f.owns; counts = omega arith; made = f.made; trial = f.trial; seen = omega arith; late = λ h. refl } in
    stays senders s.words s.views r id v w ((n + 18446744073709551612) % 18446744073709551616) at refl fits (omega arith) (inl (omega arith))

pub gives_up : (senders slots id : ℕ) (me : Sits) → 0 < me.0.kept
    → Allows (Rule senders) slots id me 0 (λ n. (n + (2 ^ 64 - 4)) % 2 ^ 64) (GivenUp (step slots 0 4 0 none) me)
gives_up senders slots id me some_kept s r _ at small =
    let v : AdmissionNotes = me.0 in
    let n : ℕ = get_or s.words 0 0 in
    let p : phase_in n ≡ r.phase = finds r in
    (given_up v (phase_in n), keeps, tt, gives_up_at senders s r id v at some_kept small (phase_in n) (sym p), (refl, seen-found r id v at))

-- The owner

-- where the owner moves the phase on, with this run count, every other seat is as it was
moves_on : {owner run run' : ℕ} {phase phase' : Status} (id : ℕ) → id ≡ owner → rank phase ≤ rank phase' → (j : ℕ) (u : AdmissionNotes) → j ≢ id → IsSeat owner phase run j u → IsSeat owner phase' run' j u
moves_on id mine more j u away h = record {
  owns = λ o. absurd (away ((h.owns o).0 ∙ sym mine));
  counts = h.counts;
  made = h.made;
  trial = h.trial;
  seen = (let below = h.seen in omega arith);
  late = h.late;
}

-- to set the lowest bit of a word begins to close
low_or : (k r : ℕ) → r < 4 → bit_or (4 * k + r) 1 ≡ 4 * k + bit_or r 1
low_or k r small =
    let turned : 4 * k + r ≡ k * 4 + r = omega arith in
    let block : bit_or (k * 4 + r) 1 ≡ bit_or k 0 * 4 + bit_or r 1 = or_block 2 k 0 r 1 small (omega arith) in
    let none_set : bit_or k 0 ≡ k = or_comm k 0 in
    let both : bit_or (4 * k + r) 1 ≡ bit_or k 0 * 4 + bit_or r 1 = ap (λ (z : ℕ). bit_or z 1) turned ∙ block in
    omega arith

or-begun : (k : ℕ) (p : Status) → bit_or (4 * k + rank p) 1 ≡ 4 * k + rank (begun p)
or-begun k Accepting = low_or k 0 (omega arith)
or-begun k Closing = low_or k 1 (omega arith)
or-begun k Closed = low_or k 3 (omega arith)

pub begins : (senders slots id : ℕ) (me : Sits) → me.0.owns ≡ true
    → Allows (Rule senders) slots id me 0 (λ n. bit_or n 1) (Begun (step slots 0 1 0 none) me)
begins senders slots id me owns s r _ at _ =
    let v : AdmissionNotes = me.0 in
    let n : ℕ = get_or s.words 0 0 in
    let f = r.each id v at in
    let mine = f.owns owns in
    let w : AdmissionNotes = record v { phase = begun v.phase; steps = v.steps + 1 } in
    let more = rank-begun r.phase in
    let seen = f.seen in
    let same = total_set kept_and_trial s.views id v w at in
    let same' = total_set run_given s.views id v w at in
    let fits : IsSeat r.owner (begun r.phase) r.run id w = record { owns = λ _. (mine.0, ap begun mine.1, mine.2); counts = f.counts; made = f.made; trial = f.trial; seen = omega arith; late = f.late } in
    let x : bit_or n 1 ≡ 4 * total kept_and_trial s.views + rank (begun r.phase) = ap (λ (z : ℕ). bit_or z 1) r.word ∙ or-begun (total kept_and_trial s.views) r.phase in (
      w,
      keeps,
      tt,
      moves senders s.words s.views r id v w (bit_or n 1) (begun r.phase) r.run at refl fits (moves_on id mine.0 more) (omega arith)
          (λ c. let z = r.closed (begun-closed r.phase c) in omega arith),
      refl,
    )

-- an attempt to close, which succeeds where the word is as it asks
pub finishes : (senders slots id asked : ℕ) (me : Sits) → me.0.owns ≡ true
    → Allows (Rule senders) slots id me 0 (λ n. either (n == 4 * asked + 1) (4 * asked + 3) n) (Finished (step slots 0 (4 * asked + 1) (4 * asked + 3) none) me)
finishes senders slots id asked me owns s r _ at _ =
    let v : AdmissionNotes = me.0 in
    let n : ℕ = get_or s.words 0 0 in
    let f = r.each id v at in
    let mine = f.owns owns in
    let found : phase_in n ≡ v.phase = finds r ∙ sym mine.1 in
    let small = word-small senders s.words s.views r in
    let few : n / 4 < 2305843009213693952 = omega arith in
    let seen = f.seen in
    dite (ℕ_discrete n (4 * asked + 1))
    (λ hit.
    let w : AdmissionNotes = record v { phase = Closed; run = n / 4; found = n / 4; steps = v.steps + 1 } in
    let closing : r.phase ≡ Closing = sym (finds r) ∙ (ap phase_in hit ∙ phase_in-word asked Closing) in
    let rk : rank r.phase ≡ 1 = ap rank closing in
    let unclosed : r.phase ≢ Closed = λ c. closing-unclosed (sym closing ∙ c) in
    let word = r.word in
    let all : total run_given s.views ≡ total kept_and_trial s.views = total_same run_given kept_and_trial s.views (λ j u e. let z = none_late r.phase (r.each j u e) unclosed in omega arith) in
    let same = total_set kept_and_trial s.views id v w at in
    let same' = total_set run_given s.views id v w at in
    let fits : IsSeat r.owner Closed (n / 4) id w = record { owns = λ _. (mine.0, refl, refl); counts = f.counts; made = f.made; trial = f.trial; seen = omega arith; late = f.late } in (
      w,
      keeps,
      tt,
      subst (λ b. IsAdmission senders (set s.words 0 (either b (4 * asked + 3) n)) (set s.views id w)) (sym (eq-eqb n (4 * asked + 1) hit))
          (moves senders s.words s.views r id v w (4 * asked + 3) Closed (n / 4) at refl fits (moves_on id mine.0 (omega arith)) (omega arith) (λ _. omega arith)),
      ((λ _. refl), (λ away. absurd (away hit)), found, few),
    ))
    (λ miss.
    let w : AdmissionNotes = record v { found = n / 4; steps = v.steps + 1 } in
    let fits : IsSeat r.owner r.phase r.run id w = record { owns = f.owns; counts = f.counts; made = f.made; trial = f.trial; seen = f.seen; late = f.late } in (
      w,
      keeps,
      tt,
      subst (λ b. IsAdmission senders (set s.words 0 (either b (4 * asked + 3) n)) (set s.views id w)) (sym (ne_eqb n (4 * asked + 1) miss)) (stays senders s.words s.views r id v w n at refl fits refl (inl refl)),
      ((λ hit. absurd (miss hit)), (λ _. refl), found, few),
    ))

-- Dealing and gathering

-- the same word, where the seats count as much as before
seated : (senders : ℕ) (words : List ℕ) (notes notes' : List AdmissionNotes) (r : IsAdmission senders words notes)
    → total seats_of notes' ≡ total seats_of notes
    → total kept_and_trial notes' ≡ total kept_and_trial notes
    → total run_given notes' ≡ total run_given notes
    → ((at : ℕ) (u : AdmissionNotes) → get_elem? notes' at ≡ some u → IsSeat r.owner r.phase r.run at u)
    → IsAdmission senders words notes'
seated senders words notes notes' r seats' counted' given' each = record {
  owner = r.owner;
  phase = r.phase;
  run = r.run;
  few = r.few;
  one = r.one;
  seats = seats' ∙ r.seats;
  word = r.word ∙ ap (λ (n : ℕ). 4 * n + rank r.phase) (sym counted');
  each = each;
  closed = λ c. given' ∙ r.closed c;
}

-- the owner deals a sender's seat
pub deals : (senders id seats : ℕ) (v : AdmissionNotes) → v ≡ owner_notes seats Accepting 0 0 0 → 0 < seats → Splits (Rule senders) id v (without_seat v) sender_notes
deals senders id seats v is some_left s r at =
    let f = r.each id v at in
    let count : v.seats ≡ seats = ap seats_of is in
    let made : v.made ≡ 0 = ap (λ u. u.made) is in
    let idle : v.trial ≡ 0 = ap (λ u. u.trial) is in
    let left : AdmissionNotes = without_seat v in
    let fits : IsSeat r.owner r.phase r.run id left = record { owns = f.owns; counts = f.counts; made = omega arith; trial = omega arith; seen = f.seen; late = f.late } in
    let counted' = total_set_snoc kept_and_trial s.views id v left sender_notes at in
    let given' = total_set_snoc run_given s.views id v left sender_notes at in
    let seats' = total_set_snoc seats_of s.views id v left sender_notes at in
    seated senders s.words s.views (set s.views id left ++ sender_notes ∷ []) r (omega arith) (omega arith) (omega arith)
    (λ j u e. ⊎_elim (λ there. ⊎_elim (λ t. same_seat t.0 t.1 fits) (λ t. r.each j u t.1) (at_set s.views id j left u there))
    (λ new. subst (λ (z : AdmissionNotes). IsSeat r.owner r.phase r.run j z) new (fresh r.owner r.run j 1 r.phase)) (at_snoc (set s.views id left) sender_notes u j e))

either_some : (a b : ℕ) → 0 < a + b → (0 < a) ⊎ (0 < b)
either_some zero b h = inr (omega arith)
either_some (suc a) b h = inl (omega arith)

-- the owner takes a sender's seat in
pub gathers : (senders id other : ℕ) (v w : AdmissionNotes) → v.owns ≡ true → Joins (Rule senders) id v other w (gathered v w) spent_notes
gathers senders id other v w owns s r at away there =
    let f = r.each id v at in
    let mine = f.owns owns in
    let both : AdmissionNotes = gathered v w in
    let was : get_elem? s.views other ≡ some w = ⊎_elim (λ t. absurd (away t.0)) (λ t. t.1) (at_set s.views id other both w there) in
    let g = r.each other w was in
    let fc = f.counts in
    let gc = g.counts in
    let fm = f.made in
    let gm = g.made in
    let ft = f.trial in
    let gt = g.trial in
    let rk : rank v.phase ≡ rank r.phase = ap rank mine.1 in
    let fits : IsSeat r.owner r.phase r.run id both = record {
      owns = λ _. mine;
      counts = omega arith;
      made = omega arith;
      trial = omega arith;
      seen = omega arith;
      late = λ h. mine.1 ∙ ⊎_elim (λ (x : 0 < v.trial + v.late). saw_closed r.phase f (f.late x)) (λ (x : 0 < w.trial + w.late). saw_closed r.phase g (g.late x)) (either_some (v.trial + v.late) (w.trial + w.late) (omega arith));
    } in
    let counted' = total_set_both kept_and_trial s.views id other v both w spent_notes at there in
    let given' = total_set_both run_given s.views id other v both w spent_notes at there in
    let seats' = total_set_both seats_of s.views id other v both w spent_notes at there in
    seated senders s.words s.views (set (set s.views id both) other spent_notes) r (omega arith) (omega arith) (omega arith)
    (λ j u e. ⊎_elim (λ t. same_seat t.0 t.1 (fresh r.owner r.run other 0 r.phase))
    (λ t. ⊎_elim (λ q. same_seat q.0 q.1 fits) (λ q. r.each j u q.1) (at_set s.views id j both u t.1)) (at_set (set s.views id both) other j spent_notes u e))

-- once the owner stands for every seat, the count of the word is its own
pub ends : (senders id : ℕ) (v : AdmissionNotes) (words : List ℕ) (slots : List (Unit {0})) → Final (Seen (Rule senders) id v) words slots → v.seats ≡ senders → v.owns ≡ true → v.trial ≡ 0
    → (get_or words 0 0 / 4 ≡ v.kept) × (v.phase ≡ Closed → v.kept + v.late ≡ v.run)
ends senders id v words slots final all owns idle =
    let s = final.0 in
    let r : IsAdmission senders s.words s.views = final.1.0 in
    let at : get_elem? s.views id ≡ some v = final.1.1 in
    let f = r.each id v at in
    let mine = f.owns owns in
    let every : total seats_of s.views ≡ v.seats = r.seats ∙ sym all in
    let counted' : total kept_and_trial s.views ≡ kept_and_trial v = total_whole kept_and_trial s.views id v at every (λ j u e z. let h = r.each j u e in let a = h.counts in let b = h.made in let c = h.trial in omega arith) in
    let given' : total run_given s.views ≡ run_given v = total_whole run_given s.views id v at every (λ j u e z. let h = r.each j u e in let a = h.counts in let b = h.made in omega arith) in
    let word : get_or s.words 0 0 ≡ 4 * total kept_and_trial s.views + rank r.phase = r.word in
    let same : get_or s.words 0 0 ≡ get_or words 0 0 = ap (λ (l : List ℕ). get_or l 0 0) final.2 in
    let small = rank-small r.phase in
    (omega arith, λ c. let z = r.closed (sym mine.1 ∙ c) in let q = mine.2 in omega arith)
