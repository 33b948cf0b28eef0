use Rattle.std.proofs.Common.{◌≡◌, ◌+◌, ℕ, List, Option, Bool, length}
use Rattle.pl_head.specs.WaitingMessages.{entries_size}
use Rattle.pl_head.specs.Buffers.{SettlesFront}
use Rattle.pl_head.specs.OutboundStand.{buffer_view, BufferHolds}
use Rattle.pl_head.proofs.outbound_buffer.OutboundBuffer.settle_written.Given as goal

abbrev pub invariant-loop-self : goal.invariant-loop-self
invariant-loop-self l =
    record {
      holds : (flushed unflushed : List (Option (List ℕ))) (left : List ℕ) (ended : Bool) → BufferHolds l.fn.self flushed unflushed left ended → BufferHolds l.self flushed unflushed left ended;
      size : entries_size l.fn.self.entries.items ≡ l.size + entries_size l.self.entries.items;
      settles : SettlesFront (buffer_view l.fn.self) (buffer_view l.self);
      numbering : l.self.is_full ≡ l.fn.self.is_full;
      marks : l.self.marks ≡ l.fn.self.marks;
    }

abbrev pub decreases-loop-self : goal.decreases-loop-self
decreases-loop-self l = length l.self.entries.items
