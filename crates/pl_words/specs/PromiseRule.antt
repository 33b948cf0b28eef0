-- The promise rule: what holds of a row of promise words and of what all its seats know, between any two steps. And what
-- each step tells the seat that made it.
use Rattle.std.specs.Prelude.{◌≡◌, ℕ, zero, suc, ◌+◌, ◌-◌, List, [], ◌∷◌, length, map, replicate, slice_index_or, slice_set, Option, Some, None}
use mathlib.Core.Option.{some}
use lib.ListN.{get_elem?}
use Rattle.atomic_table.specs.Table.{State, Me, Step}
use Rattle.pl_event.specs.declared.outcomes.Outcome.{Outcome}
use Rattle.pl_event.specs.declared.outcomes.Outcome.TheVariants.{Success, Closed, Fault, Unsupported}
use Rattle.pl_words.specs.declared.promise_steps.PromiseNotes.{PromiseNotes}
use Rattle.pl_words.specs.declared.promise_steps.RowSize.{RowSize}

-- the word of an outcome
abbrev pub code : Outcome → ℕ
code Success = 1
code Closed = 2
code Fault = 3
code Unsupported = 4

-- the word of a promise
abbrev pub code_of : Option Outcome → ℕ
code_of None = 0
code_of (Some outcome) = code outcome

-- the outcome that a word has
abbrev pub outcome_in : ℕ → Option Outcome
outcome_in zero = None
outcome_in (suc zero) = Some Success
outcome_in (suc (suc zero)) = Some Closed
outcome_in (suc (suc (suc zero))) = Some Fault
outcome_in (suc (suc (suc (suc n)))) = Some Unsupported

-- the outcome of promise n, if it is set
abbrev pub at : List (Option Outcome) → ℕ → Option Outcome
at outcomes n = slice_index_or outcomes n None

-- each outcome of the one list stands in the other
abbrev pub Stands : List (Option Outcome) → List (Option Outcome) → Type 0
Stands some_outcomes outcomes = (length some_outcomes ≡ length outcomes) × ((k : ℕ) (o : Outcome) → at some_outcomes k ≡ Some o → at outcomes k ≡ Some o)

-- the rights of all seats, added up
abbrev pub all_rights : List PromiseNotes → ℕ
all_rights [] = 0
all_rights (v ∷ vs) = v.rights + all_rights vs

-- What holds of the notes v of a seat, where this is the number of settlers and these outcomes stand: what it has seen stands,
-- what it has settled it has seen, and a seat with no right has settled nothing.
pub record IsSeat (settlers : ℕ) (outcomes : List (Option Outcome)) (v : PromiseNotes) : Type 0 where
  pub settlers_are : v.settlers ≡ settlers
  pub seen : Stands v.seen outcomes
  pub settled : Stands v.settled v.seen
  pub rightless : v.rights ≡ 0 → (k : ℕ) → at v.settled k ≡ None

-- a seat has settled promise k with this outcome
abbrev pub SomeSettled : List PromiseNotes → ℕ → Outcome → Type 0
SomeSettled notes k o = (by : ℕ) × (v : PromiseNotes) × (get_elem? notes by ≡ some v) × (at v.settled k ≡ Some o)

-- The promise rule (ChannelPromise, promise_law): each word is that of an outcome or of none, and what stands was
-- settled by a seat. It is of the row's size, the table's words and the notes of all seats.
pub record IsRow (size : RowSize) (words : List ℕ) (notes : List PromiseNotes) : Type 0 where
  pub outcomes : List (Option Outcome)
  pub row : length outcomes ≡ size.limit
  pub words_are : words ≡ map code_of outcomes
  pub rights : all_rights notes ≡ size.settlers
  pub each : (by : ℕ) (v : PromiseNotes) → get_elem? notes by ≡ some v → IsSeat size.settlers outcomes v
  pub by_seats : (k : ℕ) (o : Outcome) → at outcomes k ≡ Some o → SomeSettled notes k o

abbrev pub Rule : RowSize → State (Unit {0}) PromiseNotes → Type 0
Rule size s = IsRow size s.words s.views

-- a seat before or after a step: its notes, and the slots that it holds, of which this table has none
abbrev pub Sits : Type 0
Sits = Me (Unit {0}) PromiseNotes

-- a seat with these rights that has made no step
abbrev pub row_notes : ℕ → ℕ → ℕ → PromiseNotes
row_notes limit settlers rights = record { seen = replicate limit None; settled = replicate limit None; rights = rights; settlers = settlers; steps = 0 }

abbrev pub first_notes : RowSize → PromiseNotes
first_notes size = row_notes size.limit size.settlers size.settlers

-- a seat without so many of its rights, and one with so many that knows what it knows
abbrev pub without_rights : ℕ → PromiseNotes → PromiseNotes
without_rights given v = record v { rights = v.rights - given }

abbrev pub with_rights : ℕ → PromiseNotes → PromiseNotes
with_rights given v = record v { rights = given }

-- the seat has seen this of promise n
abbrev pub saw : PromiseNotes → ℕ → Option Outcome → PromiseNotes
saw v n o = record v { seen = slice_set v.seen n o; steps = v.steps + 1 }

-- the seat has settled promise n so, and with that seen it
abbrev pub settled_so : PromiseNotes → ℕ → Option Outcome → PromiseNotes
settled_so v n o = record v { seen = slice_set v.seen n o; settled = slice_set v.settled n o; steps = v.steps + 1 }

-- after an attempt to settle promise n so, which found this
abbrev pub attempted : PromiseNotes → ℕ → Option Outcome → Option Outcome → PromiseNotes
attempted v n asked None = settled_so v n asked
attempted v n asked (Some found) = saw v n (Some found)

-- What each step tells: of the step, the seat before, the number found in the word, and the seat after. What the seat has
-- seen of the promise is found again; who is the only settler finds no outcome but its own.

abbrev pub Looked : Step (Unit {0}) → Sits → ℕ → Sits → Type 0
Looked st m n m' = (m' ≡ (saw m.0 st.word (outcome_in n), m.1)) × (at m'.0.seen st.word ≡ outcome_in n)
    × ((o : Outcome) → at m.0.seen st.word ≡ Some o → outcome_in n ≡ Some o)

abbrev pub Settled : Step (Unit {0}) → Sits → ℕ → Sits → Type 0
Settled st m n m' =
    (outcome_in n ≡ None → (m' ≡ (settled_so m.0 st.word (outcome_in st.second), m.1)) × (at m.0.seen st.word ≡ None) × (at m'.0.seen st.word ≡ outcome_in st.second))
    × ((o : Outcome) → outcome_in n ≡ Some o → (m' ≡ (saw m.0 st.word (Some o), m.1)) × (at m'.0.seen st.word ≡ Some o) × (m.0.rights ≡ 1 → m.0.settlers ≡ 1 → at m.0.settled st.word ≡ Some o))
    × ((o : Outcome) → at m.0.seen st.word ≡ Some o → outcome_in n ≡ Some o)
