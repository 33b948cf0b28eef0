-- The mark rule: what holds of the mark word and of what all its seats know, between any two steps. And what each step
-- tells the seat that made it.
use Rattle.std.specs.Prelude.{◌≡◌, ℕ, ◌+◌, ◌*◌, ◌/◌, ◌%◌, ◌≤◌, ◌==◌, Bool, true, false, List, length, slice_index}
use mathlib.Core.Option.{some}
use lib.ListN.{get_elem?}
use Rattle.atomic_table.specs.Table.{State, Me, Step}
use Rattle.pl_words.specs.declared.watermark_steps.WatermarkNotes.{WatermarkNotes}

-- what a flag adds to the word
abbrev pub bit : Bool → ℕ
bit false = 0
bit true = 1

-- the version and the flag that a word has
abbrev pub version_in : ℕ → ℕ
version_in word = word / 2

abbrev pub flag_in : ℕ → Bool
flag_in word = word % 2 == 1

-- What holds of the notes v of seat number `by`, where seat number `head` has made this many sets and the last of them
-- set this flag.
pub record IsSeat (head : ℕ) (sets : ℕ) (flag : Bool) (by : ℕ) (v : WatermarkNotes) : Type 0 where
  pub heads : v.is_head ≡ true → (by ≡ head) × (v.sets ≡ sets) × (v.flag ≡ flag)
  -- no seat has seen a version above the head's, and with the head's version it has seen the head's flag
  pub version : v.version ≤ sets
  pub same : v.version ≡ sets → v.unwritable ≡ flag

-- The mark rule (WriteBufferWaterMark, mark_law): the word is twice the head's sets plus its flag. It is of the
-- table's words and the notes of all seats.
pub record IsWatermark (words : List ℕ) (notes : List WatermarkNotes) : Type 0 where
  pub head : ℕ
  pub sets : ℕ
  pub flag : Bool
  pub one : length words ≡ 1
  pub word : slice_index words 0 ≡ 2 * sets + bit flag
  pub each : (by : ℕ) (v : WatermarkNotes) → get_elem? notes by ≡ some v → IsSeat head sets flag by v

abbrev pub Rule : Unit {0} → State (Unit {0}) WatermarkNotes → Type 0
Rule _ s = IsWatermark s.words s.views

-- a seat before or after a step: its notes, and the slots that it holds, of which this table has none
abbrev pub Sits : Type 0
Sits = Me (Unit {0}) WatermarkNotes

-- What the head knows after this many sets. Each of them was one step.
abbrev pub head_notes : ℕ → Bool → WatermarkNotes
head_notes sets flag = record { is_head = true; sets = sets; flag = flag; version = 0; unwritable = false; steps = sets }

-- what a new reader knows: version 0 is writable
abbrev pub reader_notes : WatermarkNotes
reader_notes = record { is_head = false; sets = 0; flag = false; version = 0; unwritable = false; steps = 0 }

-- What each step tells: of the step, the seat before, the number found in the word, or set there, and the seat after.

abbrev pub MarkSet : Step (Unit {0}) → Sits → ℕ → Sits → Type 0
MarkSet st m n m' = m' ≡ (record m.0 { sets = m.0.sets + 1; flag = flag_in n; steps = m.0.steps + 1 }, m.1)

abbrev pub Looked : Step (Unit {0}) → Sits → ℕ → Sits → Type 0
Looked st m n m' =
    (m' ≡ (record m.0 { version = version_in n; unwritable = flag_in n; steps = m.0.steps + 1 }, m.1))
    × (m.0.version ≤ version_in n)
    × (m.0.version ≡ version_in n → m.0.unwritable ≡ flag_in n)
