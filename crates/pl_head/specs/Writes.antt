-- Head outcome: what a list of events writes, what of it is flushed, and how each write ends (Netty:
-- ChannelOutboundBuffer, ChannelPromise).
use Rattle.std.specs.Prelude.{◌≡◌, ℕ, ◌+◌, ◌-◌, List, [], ◌∷◌, ◌++◌, length, map, Bool, true, false, ◌||◌, if◌then◌else◌, nat_le, Option, Some, None}
use Rattle.pl_event.specs.declared.events.Event.{Event}
use Rattle.pl_event.specs.declared.events.Event.TheVariants.{Active, Read, ReadComplete, Caught, User, Write, Flush}
use Rattle.pl_event.specs.declared.events.Message.TheVariants.{Bytes, Line, Command, Reply}
use Rattle.pl_event.specs.declared.outcomes.Outcome.{Outcome}
use Rattle.pl_event.specs.declared.outcomes.Outcome.TheVariants.{Success, Closed, Unsupported}

-- the write that an event makes, if it makes one: its bytes, or none for a message of another kind
abbrev pub write_by : Event → List (Option (List ℕ))
write_by (Write (Bytes b)) = Some b ∷ []
write_by (Write (Line b)) = None ∷ []
write_by (Write (Command c)) = None ∷ []
write_by (Write (Reply r)) = None ∷ []
write_by Active = []
write_by (Read m) = []
write_by ReadComplete = []
write_by (Caught c) = []
write_by (User number) = []
write_by Flush = []

abbrev pub is_flush : Event → Bool
is_flush Flush = true
is_flush Active = false
is_flush (Read m) = false
is_flush ReadComplete = false
is_flush (Caught c) = false
is_flush (User number) = false
is_flush (Write m) = false

abbrev pub has_flush : List Event → Bool
has_flush [] = false
has_flush (y ∷ ys) = is_flush y || has_flush ys

-- all writes
abbrev pub writes_by : List Event → List (Option (List ℕ))
writes_by [] = []
writes_by (y ∷ ys) = write_by y ++ writes_by ys

-- the writes before the last flush (ChannelOutboundBuffer)
abbrev pub flushed_writes : List Event → List (Option (List ℕ))
flushed_writes [] = []
flushed_writes (y ∷ ys) = (if has_flush (y ∷ ys) then write_by y else []) ++ flushed_writes ys

-- the writes after the last flush
abbrev pub unflushed_writes : List Event → List (Option (List ℕ))
unflushed_writes [] = []
unflushed_writes (y ∷ ys) = (if has_flush (y ∷ ys) then [] else write_by y) ++ unflushed_writes ys

-- the bytes of these writes, one after another
abbrev pub bytes_of : List (Option (List ℕ)) → List ℕ
bytes_of [] = []
bytes_of (None ∷ ws) = bytes_of ws
bytes_of (Some b ∷ ws) = b ++ bytes_of ws

-- The flushed output (ChannelOutboundBuffer). It is the bytes of the writes before the last flush.
abbrev pub out : List Event → List ℕ
out ys = bytes_of (flushed_writes ys)

-- No byte of these events waits: all are flushed, and are the bytes accepted.
pub record HasLeft (accepted : List ℕ) (ys : List Event) : Type 0 where
  pub output : accepted ≡ out ys
  pub flushed : bytes_of (unflushed_writes ys) ≡ []

-- The outcome of a flushed write, by where it ends in the output: a success once that many bytes were accepted.
abbrev pub outcomes_from : ℕ → ℕ → List (Option (List ℕ)) → List (Option Outcome)
outcomes_from start accepted [] = []
outcomes_from start accepted (None ∷ ws) = Some Unsupported ∷ outcomes_from start accepted ws
outcomes_from start accepted (Some b ∷ ws) =
    (if nat_le (start + length b) accepted then Some Success else None) ∷ outcomes_from (start + length b) accepted ws

-- the outcome of an unflushed write: it waits, or was closed when the lane ended
abbrev pub waiting : Option (List ℕ) → Option Outcome
waiting None = Some Unsupported
waiting (Some b) = None

-- the outcome of a write that is settled by this one before it was sent: a message that is not bytes is unsupported
abbrev pub late_outcome : Outcome → Option (List ℕ) → Option Outcome
late_outcome o None = Some Unsupported
late_outcome o (Some b) = Some o

abbrev pub unflushed_outcome : Bool → Option (List ℕ) → Option Outcome
unflushed_outcome ended w = if ended then late_outcome Closed w else waiting w

-- Head outcome: that of each write of the events ys, after this many bytes were accepted, and whether the lane has ended.
abbrev pub outcomes : List Event → ℕ → Bool → List (Option Outcome)
outcomes ys accepted ended =
    outcomes_from 0 accepted (flushed_writes ys) ++ map (unflushed_outcome ended) (unflushed_writes ys)

-- How many bytes one write to the transport offers (ChannelOutboundBuffer). Once this many were accepted, it offers
-- what is left of the first of these messages that has not left whole. start is where the first message begins in the
-- output.
abbrev pub bytes_offered : ℕ → ℕ → List (Option (List ℕ)) → ℕ
bytes_offered start accepted [] = 0
bytes_offered start accepted (None ∷ ws) = bytes_offered start accepted ws
bytes_offered start accepted (Some b ∷ ws) =
    if nat_le (start + length b) accepted then bytes_offered (start + length b) accepted ws else start + length b - accepted

-- how many bytes the writes hold that have no outcome yet
abbrev pub open_size : List (Option (List ℕ)) → List (Option Outcome) → ℕ
open_size [] os = 0
open_size (w ∷ ws) [] = 0
open_size (None ∷ ws) (o ∷ os) = open_size ws os
open_size (Some b ∷ ws) (None ∷ os) = length b + open_size ws os
open_size (Some b ∷ ws) (Some o ∷ os) = open_size ws os

-- Waiting bytes: those of all writes without an outcome, after these events and this many bytes accepted.
abbrev pub waiting_bytes : List Event → ℕ → Bool → ℕ
waiting_bytes ys accepted ended = open_size (flushed_writes ys ++ unflushed_writes ys) (outcomes ys accepted ended)
