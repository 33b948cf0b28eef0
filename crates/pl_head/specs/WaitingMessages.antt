-- Messages that wait in a buffer.
use Rattle.std.specs.Prelude.{slice_set, ◌≡◌, ℕ, ◌+◌, ◌-◌, ◌≤◌, List, [], ◌∷◌, ◌++◌, length, drop, map, Bool, Option, Some, None, sum_by, if◌then◌else◌}
use Rattle.pl_event.specs.declared.outcomes.Outcome.{Outcome}
use Rattle.pl_event.specs.declared.outcomes.Outcome.TheVariants.{Success, Unsupported}
use Rattle.pl_head.specs.Writes.{bytes_of, waiting, unflushed_outcome}
use Rattle.pl_head.specs.declared.outbound_buffer.Entry.{Entry}

-- the length of the first message, or 0
abbrev pub first_size : List Entry → ℕ
first_size [] = 0
first_size (e ∷ es) = length e.bytes

-- the bytes of all messages together
abbrev pub entries_size : List Entry → ℕ
entries_size es = sum_by (λ e. length e.bytes) es

-- the messages among these writes, with the numbers of the writes, of which the first is n
abbrev pub entries_numbered : ℕ → List (Option (List ℕ)) → List Entry
entries_numbered n [] = []
entries_numbered n (None ∷ ws) = entries_numbered (n + 1) ws
entries_numbered n (Some b ∷ ws) = record { number = n; bytes = b } ∷ entries_numbered (n + 1) ws

-- the outcome of a write that has left whole
abbrev pub settled : Option (List ℕ) → Option Outcome
settled None = Some Unsupported
settled (Some b) = Some Success

-- Messages of which the first are flushed, with an offset into the first, and outcomes. They may stand after
-- these flushed and unflushed writes, when these bytes of the output are left, and the lane has ended or not: some
-- flushed writes are done, and the others wait.
pub record MessagesStand (entries : List Entry) (offset count : ℕ) (outcomes : List (Option Outcome)) (flushed unflushed : List (Option (List ℕ))) (left : List ℕ) (ended : Bool) : Type 0 where
  pub done : List (Option (List ℕ))
  pub mid : List (Option (List ℕ))
  pub split : done ++ mid ≡ flushed
  pub entries_are : entries ≡ entries_numbered (length done) mid ++ (if ended then [] else entries_numbered (length flushed) unflushed)
  pub count_is : count ≡ length (entries_numbered (length done) mid)
  pub outcomes_are : outcomes ≡ map settled done ++ (map waiting mid ++ map (unflushed_outcome ended) unflushed)
  pub rest : drop offset (bytes_of mid) ≡ left
  pub fits : offset ≤ length (bytes_of mid)

-- the numbers of their writes
abbrev pub entry_numbers : List Entry → List ℕ
entry_numbers es = map (λ e. e.number) es

-- the number of the first message; and where there is none, how many writes there are
abbrev pub first_number : List Entry → ℕ → ℕ
first_number [] writes = writes
first_number (e ∷ es) writes = e.number

-- messages whose writes are counted from this one
abbrev pub renumbered : ℕ → List Entry → List Entry
renumbered first es = map (λ (e : Entry). record e { number = e.number - first }) es

-- the outcomes once these messages are settled by this one
abbrev pub settled_all : Outcome → List Entry → List (Option Outcome) → List (Option Outcome)
settled_all o [] os = os
settled_all o (e ∷ es) os = settled_all o es (slice_set os e.number (Some o))
