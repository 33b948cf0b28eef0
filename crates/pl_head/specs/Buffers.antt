-- What contracts see of an outbound buffer, and the events and sizes after which it may stand.
use Rattle.std.specs.Prelude.{◌≡◌, ◌⊎◌, ℕ, ◌-◌, ◌<◌, List, [], ◌∷◌, ◌++◌, length, take, drop, map, Bool, true, false, ◌&&◌, ◌==◌, nat_lt, Option, Some, None, IsSome, if◌then◌else◌}
use Rattle.pl_event.specs.declared.events.Event.{Event}
use Rattle.pl_event.specs.declared.outcomes.Outcome.{Outcome}
use Rattle.pl_context.specs.declared.ports.Port.{Port}
use Rattle.pl_head.specs.declared.outbound_buffer.Entry.{Entry}
use Rattle.pl_head.specs.Writes.{write_by, writes_by, is_flush, flushed_writes, unflushed_writes, late_outcome, out, outcomes}
use Rattle.pl_head.specs.Failures.{settled_by}
use Rattle.pl_head.specs.Settling.{GoesOn, numbers_from}
use Rattle.pl_head.specs.WaitingMessages.{MessagesStand, first_size, entries_size, entry_numbers, first_number, renumbered}
use Rattle.pl_head.specs.Marks.{Change, Added, Removed}
use Rattle.pl_head.specs.MarksStand.{Watermarks}

-- The messages that wait, the first of them flushed, with an offset into the first; the outcome of each write; the
-- marks with the bytes that wait; where flags go up; and for how many more messages, and more outcomes, there is room
-- without a growth. Then the numbers of the settled writes in the order of settling, and how many of them were told;
-- and whether a write found no place for its outcome, so that none gets a number any more.
pub record OutboundBufferView : Type 0 where
  pub entries : List Entry
  pub offset : ℕ
  pub flushed : ℕ
  pub outcomes : List (Option Outcome)
  pub low : ℕ
  pub high : ℕ
  pub pending : ℕ
  pub is_unwritable : Bool
  pub flags : Port
  pub entries_room : ℕ
  pub outcomes_room : ℕ
  pub settled : List ℕ
  pub told : ℕ
  pub is_full : Bool

-- The buffer may stand after these events, when these bytes of their output were accepted and the lane has ended or
-- not, and after these sizes were added and removed: it holds what is left of the output, and with what was accepted
-- that is the whole. The first flushed message has a byte left, and pending are the bytes of all messages.
pub record BufferStands (accepted : List ℕ) (b : OutboundBufferView) (ys : List Event) (ended : Bool) (sizes : List Change) : Type 0 where
  pub left : List ℕ
  pub messages : MessagesStand b.entries b.offset b.flushed b.outcomes (flushed_writes ys) (unflushed_writes ys) left ended
  pub output : accepted ++ left ≡ out ys
  pub at_rest : 0 < b.flushed → b.offset < first_size b.entries
  pub size : b.pending ≡ entries_size b.entries
  pub marks : Watermarks b.low b.high b.pending b.is_unwritable b.flags sizes

-- The buffer of a head that has failed by itself: nothing waits. It may stand after the events ys, taken before the
-- failure, and zs, taken from it on, when the failure settled by this outcome: what waited was settled, and the first
-- writes of zs got a number and are settled, all of them where numbering goes on.
pub record BufferFailed (o : Outcome) (accepted : List ℕ) (b : OutboundBufferView) (ys zs : List Event) (ended : Bool) (sizes : List Change) : Type 0 where
  pub left : List ℕ
  pub output : accepted ++ left ≡ out ys
  pub entries : b.entries ≡ []
  pub pending : b.pending ≡ 0
  pub late : List (Option (List ℕ))
  pub unnumbered : List (Option (List ℕ))
  pub split : late ++ unnumbered ≡ writes_by zs
  pub all : b.is_full ≡ false → unnumbered ≡ []
  pub outcomes_are : b.outcomes ≡ map (settled_by o) (outcomes ys (length accepted) ended) ++ map (late_outcome o) late
  pub marks : Watermarks b.low b.high b.pending b.is_unwritable b.flags sizes

-- What waits, how much of it has left, the outcomes, the settled writes, the marks and the flags are as they were: only how
-- much room there is, and whether writes get numbers, may differ.
abbrev pub IsAsBefore : OutboundBufferView → OutboundBufferView → Type 0
IsAsBefore b b' = b' ≡ record b { entries_room = b'.entries_room; outcomes_room = b'.outcomes_room; is_full = b'.is_full }

-- how many writes come before the first that waits
abbrev pub first_waiting : OutboundBufferView → ℕ
first_waiting b = first_number b.entries (length b.outcomes)

-- no flushed message waits, and the first write does not wait
abbrev pub can_forget_writes : OutboundBufferView → Bool
can_forget_writes b = (b.flushed == 0) && nat_lt 0 (first_waiting b)

-- The writes before the first that waits, which are all settled, are forgotten, told or not: the others are counted from that
-- one. The order of settling stays, and so does which of the others were told.
abbrev pub ForgetsWrites : OutboundBufferView → OutboundBufferView → Type 0
ForgetsWrites b b' =
    b' ≡ record b {
      entries = renumbered (first_waiting b) b.entries;
      outcomes = drop (first_waiting b) b.outcomes;
      outcomes_room = b'.outcomes_room;
      settled = numbers_from (first_waiting b) b.settled;
      told = length (numbers_from (first_waiting b) (take b.told b.settled));
    }

-- One call settles more writes after those before (ChannelPromise). Their numbers come in rising order, and no more
-- are told.
pub record SettlesMore (b b' : OutboundBufferView) : Type 0 where
  pub settled : GoesOn b.settled b'.settled
  pub told : b'.told ≡ b.told

-- Numbering stops only where an outcome found no room (ChannelPromise). There was none for one outcome more, and it
-- does not begin again.
pub record StopsNumbers (b b' : OutboundBufferView) : Type 0 where
  pub only : b'.is_full ≡ true → (b.is_full ≡ true) ⊎ (b.outcomes_room ≡ 0)
  pub stays : b.is_full ≡ true → b'.is_full ≡ true

-- the settled writes that were not told yet
abbrev pub untold : OutboundBufferView → List ℕ
untold b = drop b.told b.settled

-- Messages leave the front settled: their numbers follow those of the settled writes, in the order in which they waited.
pub record SettlesFront (b b' : OutboundBufferView) : Type 0 where
  pub front : List ℕ
  pub settled : b'.settled ≡ b.settled ++ front
  pub waited : entry_numbers b.entries ≡ front ++ entry_numbers b'.entries
  pub told : b'.told ≡ b.told

-- An event finds no place, for one outcome more or for one message. It makes a write where there is no room for an
-- outcome; or it makes a write of bytes, and there is none for a message.
pub record LacksRoom (e : Event) (b : OutboundBufferView) : Type 0 where
  pub write : Option (List ℕ)
  pub makes : write_by e ≡ write ∷ []
  pub full : (b.outcomes_room ≡ 0) ⊎ (IsSome write × (b.entries_room ≡ 0))

-- the marks and the lane of flags stay
pub record SameMarks (b b' : OutboundBufferView) : Type 0 where
  pub low : b'.low ≡ b.low
  pub high : b'.high ≡ b.high
  pub lane : b'.flags.lane ≡ b.flags.lane

-- the sizes that writes add: none for a message that is not bytes
abbrev pub write_sizes : List (Option (List ℕ)) → List Change
write_sizes [] = []
write_sizes (None ∷ ws) = write_sizes ws
write_sizes (Some b ∷ ws) = Added (length b) ∷ write_sizes ws

-- the sizes that an event adds or removes, by the bytes that waited before it and after: a flush removes what is
-- settled
abbrev pub event_sizes : Event → ℕ → ℕ → List Change
event_sizes e before after = write_sizes (write_by e) ++ (if is_flush e then Removed (before - after) ∷ [] else [])
