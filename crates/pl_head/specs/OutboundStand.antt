-- An outbound buffer, as contracts see it, and the writes after which it may stand.
use Rattle.std.specs.Prelude.{◌≡◌, ℕ, ◌+◌, ◌-◌, ◌^◌, ◌<◌, ◌≤◌, List, [], ◌∷◌, ◌++◌, length, Bool, false, Option, min, vec_len, vec_capacity}
use Rattle.std.specs.VecDeque.{deque_len, deque_capacity}
use Rattle.pl_event.specs.declared.events.Event.{Event}
use Rattle.pl_context.specs.OutputsViews.{OutputsView}
use Rattle.pl_head.specs.Writes.{waiting_bytes}
use Rattle.pl_head.specs.Marks.{Change}
use Rattle.pl_head.specs.WaitingMessages.{MessagesStand}
use Rattle.pl_head.specs.MarksStand.{SendsFlags, flag_bound}
use Rattle.pl_head.specs.Buffers.{OutboundBufferView, BufferStands, SameMarks, SettlesMore, StopsNumbers, event_sizes}
use Rattle.pl_head.specs.declared.outbound_buffer.OutboundBuffer.{OutboundBuffer}

-- a buffer as contracts see it
abbrev pub buffer_view : OutboundBuffer → OutboundBufferView
buffer_view b = record {
  entries = b.entries.items;
  offset = b.offset;
  flushed = b.flushed;
  outcomes = b.outcomes.items;
  low = b.marks.low;
  high = b.marks.high;
  pending = b.marks.pending;
  is_unwritable = b.marks.is_unwritable;
  flags = b.marks.flags;
  entries_room = deque_capacity b.entries - deque_len b.entries;
  outcomes_room = min (vec_capacity b.outcomes - vec_len b.outcomes) (vec_capacity b.settled - vec_len b.outcomes);
  settled = b.settled.items;
  told = b.told;
  is_full = b.is_full;
}

-- the buffer may stand after these flushed and unflushed writes, when these bytes of the output are left to write
abbrev pub BufferHolds : OutboundBuffer → List (Option (List ℕ)) → List (Option (List ℕ)) → List ℕ → Bool → Type 0
BufferHolds b flushed unflushed left ended =
    MessagesStand b.entries.items b.offset b.flushed b.outcomes.items flushed unflushed left ended

-- there is a place for the outcome of one write more, and for its number where it is settled
abbrev pub HasPlace : OutboundBuffer → Type 0
HasPlace b = (vec_len b.outcomes < vec_capacity b.outcomes) × (vec_len b.outcomes < vec_capacity b.settled)

-- An event is added: whichever events and sizes the buffer stood after, it stands after that event too, with the sizes that
-- it adds or removes. The flags that those bring are sent, and numbering goes on.
pub record AddsEvent (e : Event) (b : OutboundBuffer) (before : OutputsView) (b' : OutboundBuffer) (after : OutputsView) : Type 0 where
  pub stands : (accepted : List ℕ) (ys : List Event) (sizes : List Change) → BufferStands accepted (buffer_view b) ys false sizes
      → BufferStands accepted (buffer_view b') (ys ++ e ∷ []) false (sizes ++ event_sizes e (waiting_bytes ys (length accepted) false) (waiting_bytes (ys ++ e ∷ []) (length accepted) false))
  pub flags : (accepted : List ℕ) (ys : List Event) (sizes : List Change) → BufferStands accepted (buffer_view b) ys false sizes
      → SendsFlags b.marks.low b.marks.high sizes (event_sizes e (waiting_bytes ys (length accepted) false) (waiting_bytes (ys ++ e ∷ []) (length accepted) false)) b.marks.flags before b'.marks.flags after
  pub numbering : b'.is_full ≡ false

-- An event is taken in, whether it is added or refused: writes may be settled, numbering may stop for want of room, and the
-- bytes of one message more may wait, with two flags more to come.
pub record TakesIn (b b' : OutboundBuffer) : Type 0 where
  pub stops : StopsNumbers (buffer_view b) (buffer_view b')
  pub same : SameMarks (buffer_view b) (buffer_view b')
  pub settles : SettlesMore (buffer_view b) (buffer_view b')
  pub pending : b'.marks.pending ≤ b.marks.pending + 2 ^ 64
  pub count : flag_bound b'.marks ≤ flag_bound b.marks + 2

-- Messages are taken out, and their bytes removed: more writes are settled, none gets a number, and no more bytes wait
-- and flags may come than before.
pub record TakesOut (b b' : OutboundBuffer) : Type 0 where
  pub same : SameMarks (buffer_view b) (buffer_view b')
  pub settles : SettlesMore (buffer_view b) (buffer_view b')
  pub numbering : b'.is_full ≡ b.is_full
  pub pending : b'.marks.pending ≤ b.marks.pending
  pub count : flag_bound b'.marks ≤ flag_bound b.marks
