-- The admission rule: what holds of the word and of what all its seats know, between any two steps. And what each step
-- tells the seat that made it.
use Rattle.std.specs.Prelude.{◌≡◌, ◌≢◌, ℕ, ◌+◌, ◌-◌, ◌*◌, ◌/◌, ◌^◌, ◌<◌, ◌≤◌, true, false, List, [], ◌∷◌, length, slice_index}
use mathlib.Core.Option.{some}
use lib.ListN.{get_elem?}
use Rattle.atomic_table.specs.Table.{State, Me, Step}
use Rattle.pl_words.specs.declared.admission.TheConstants.{MAX_ADMISSIONS, NO_COUNT}
use Rattle.pl_words.specs.declared.admission_steps.AdmissionNotes.{AdmissionNotes}
use Rattle.pl_words.specs.declared.status.Status.{Status}
use Rattle.pl_words.specs.declared.status.Status.TheVariants.{Accepting, Closing, Closed}
use Rattle.pl_words.specs.Phases.{rank, phase_in, begun}

-- a number of each seat's notes, added up
abbrev pub total : (AdmissionNotes → ℕ) → List AdmissionNotes → ℕ
total f [] = 0
total f (v ∷ vs) = f v + total f vs

abbrev pub seats_of : AdmissionNotes → ℕ
seats_of v = v.seats

-- what a seat adds to the word's count
abbrev pub kept_and_trial : AdmissionNotes → ℕ
kept_and_trial v = v.kept + v.trial

-- a seat's admissions in the run count at closing
abbrev pub run_given : AdmissionNotes → ℕ
run_given v = v.kept + v.late

-- What holds of the notes v of seat number `by`, where seat number `owner` owns the word, which is at this phase and was
-- closed with this run count.
pub record IsSeat (owner : ℕ) (phase : Status) (run : ℕ) (by : ℕ) (v : AdmissionNotes) : Type 0 where
  pub owns : v.owns ≡ true → (by ≡ owner) × (v.phase ≡ phase) × (v.run ≡ run)
  pub counts : v.kept + v.late ≤ v.made
  pub made : v.made ≤ v.seats * MAX_ADMISSIONS
  pub trial : v.trial ≤ v.seats
  -- no seat has seen a phase above the owner's
  pub seen : rank v.seen ≤ rank phase
  -- a trial and what was given up late are of a seat that has seen closed
  pub late : 0 < v.trial + v.late → v.seen ≡ Closed

-- The admission rule (admission_law): the word is four times the sum of kept and trial, plus the owner's phase. It is
-- of the number of senders, the table's words and the notes of all seats. Once the phase is closed, kept and late add
-- up to the owner's run count.
pub record IsAdmission (senders : ℕ) (words : List ℕ) (notes : List AdmissionNotes) : Type 0 where
  pub owner : ℕ
  pub phase : Status
  pub run : ℕ
  pub few : senders < 2 ^ 16
  pub one : length words ≡ 1
  pub seats : total seats_of notes ≡ senders
  pub word : slice_index words 0 ≡ 4 * total kept_and_trial notes + rank phase
  pub each : (by : ℕ) (v : AdmissionNotes) → get_elem? notes by ≡ some v → IsSeat owner phase run by v
  pub closed : phase ≡ Closed → total run_given notes ≡ run

abbrev pub Rule : ℕ → State (Unit {0}) AdmissionNotes → Type 0
Rule senders s = IsAdmission senders s.words s.views

-- a seat before or after a step: its notes, and the slots that it holds, of which this table has none
abbrev pub Sits : Type 0
Sits = Me (Unit {0}) AdmissionNotes

-- what the owner knows
abbrev pub owner_notes : ℕ → Status → ℕ → ℕ → ℕ → AdmissionNotes
owner_notes seats phase run found steps =
    record { seats = seats; made = 0; kept = 0; trial = 0; late = 0; seen = Accepting; steps = steps; owns = true; phase = phase; run = run; found = found }

-- what this many senders' seats know that have made no step
abbrev pub fresh_notes : ℕ → AdmissionNotes
fresh_notes seats =
    record { seats = seats; made = 0; kept = 0; trial = 0; late = 0; seen = Accepting; steps = 0; owns = false; phase = Accepting; run = 0; found = 0 }

-- what a new sender knows
abbrev pub sender_notes : AdmissionNotes
sender_notes = fresh_notes 1

-- what is left of a seat that the owner took in: it counts nothing
abbrev pub spent_notes : AdmissionNotes
spent_notes = fresh_notes 0

-- the owner without one of the seats that it has
abbrev pub without_seat : AdmissionNotes → AdmissionNotes
without_seat v = record v { seats = v.seats - 1 }

-- the owner with a sender's seat taken in
abbrev pub gathered : AdmissionNotes → AdmissionNotes → AdmissionNotes
gathered v w =
    record v { seats = v.seats + w.seats; made = v.made + w.made; kept = v.kept + w.kept; trial = v.trial + w.trial; late = v.late + w.late; seen = v.phase }

-- Notes after an addition that found this phase. It was an admission, or a trial.
abbrev pub tried : AdmissionNotes → Status → AdmissionNotes
tried v Accepting = record v { made = v.made + 1; kept = v.kept + 1; seen = Accepting; steps = v.steps + 1 }
tried v Closing = record v { made = v.made + 1; kept = v.kept + 1; seen = Closing; steps = v.steps + 1 }
tried v Closed = record v { trial = 1; seen = Closed; steps = v.steps + 1 }

-- after an admission was given up by a step that found this phase
abbrev pub given_up : AdmissionNotes → Status → AdmissionNotes
given_up v Accepting = record v { kept = v.kept - 1; seen = Accepting; steps = v.steps + 1 }
given_up v Closing = record v { kept = v.kept - 1; seen = Closing; steps = v.steps + 1 }
given_up v Closed = record v { kept = v.kept - 1; late = v.late + 1; seen = Closed; steps = v.steps + 1 }

-- What each step tells: of the step, the seat before, the number found in the word, and the seat after. No step of a
-- sender finds a phase before the latest that it has seen.

abbrev pub Tried : Step (Unit {0}) → Sits → ℕ → Sits → Type 0
Tried st m n m' = (m' ≡ (tried m.0 (phase_in n), m.1)) × (rank m.0.seen ≤ rank (phase_in n))

abbrev pub TakenBack : Step (Unit {0}) → Sits → ℕ → Sits → Type 0
TakenBack st m n m' = m' ≡ (record m.0 { trial = 0; steps = m.0.steps + 1 }, m.1)

abbrev pub Looked : Step (Unit {0}) → Sits → ℕ → Sits → Type 0
Looked st m n m' = (m' ≡ (record m.0 { seen = phase_in n; steps = m.0.steps + 1 }, m.1)) × (rank m.0.seen ≤ rank (phase_in n))

abbrev pub GivenUp : Step (Unit {0}) → Sits → ℕ → Sits → Type 0
GivenUp st m n m' = (m' ≡ (given_up m.0 (phase_in n), m.1)) × (rank m.0.seen ≤ rank (phase_in n))

abbrev pub Begun : Step (Unit {0}) → Sits → ℕ → Sits → Type 0
Begun st m n m' = m' ≡ (record m.0 { phase = begun m.0.phase; steps = m.0.steps + 1 }, m.1)

-- An attempt to close finds the owner's phase, and a count below 2^61. Where the number is the one asked for, the word is
-- closed, with that count as the run count.
abbrev pub Finished : Step (Unit {0}) → Sits → ℕ → Sits → Type 0
Finished st m n m' =
    (n ≡ st.first → m' ≡ (record m.0 { phase = Closed; run = n / 4; found = n / 4; steps = m.0.steps + 1 }, m.1))
    × (n ≢ st.first → m' ≡ (record m.0 { found = n / 4; steps = m.0.steps + 1 }, m.1))
    × (phase_in n ≡ m.0.phase)
    × (n / 4 < NO_COUNT)
