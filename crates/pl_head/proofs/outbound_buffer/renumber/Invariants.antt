use Rattle.std.proofs.Common.{◌≡◌, length, take, drop}
use Rattle.std.specs.VecDeque.{deque_len, deque_capacity}
use Rattle.pl_head.specs.WaitingMessages.{renumbered}
use Rattle.pl_head.proofs.outbound_buffer.renumber.Given as goal

abbrev pub invariant-loop-i : goal.invariant-loop-i
invariant-loop-i l =
    record {
      length : length l.entries.items ≡ length l.fn.entries.items;
      done : take l.i l.entries.items ≡ renumbered l.fn.first (take l.i l.fn.entries.items);
      left : drop l.i l.entries.items ≡ drop l.i l.fn.entries.items;
      len : deque_len l.entries ≡ deque_len l.fn.entries;
      capacity : deque_capacity l.entries ≡ deque_capacity l.fn.entries;
    }
