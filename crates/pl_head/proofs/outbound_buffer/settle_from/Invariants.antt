use Rattle.std.proofs.Common.{◌≡◌, ◌+◌, ◌++◌, take, drop, vec_len, vec_capacity}
use Rattle.pl_head.specs.WaitingMessages.{entries_size, settled_all, entry_numbers}
use Rattle.pl_head.specs.Settling.{Account}
use Rattle.pl_head.proofs.outbound_buffer.settle_from.Given as goal

abbrev pub invariant-loop-i : goal.invariant-loop-i
invariant-loop-i l =
    record {
      outcomes : settled_all l.fn.outcome (drop l.i l.fn.entries.items) l.outcomes.items ≡ settled_all l.fn.outcome (drop l.fn.start l.fn.entries.items) l.fn.outcomes.items;
      size : l.size + entries_size (drop l.i l.fn.entries.items) ≡ entries_size (drop l.fn.start l.fn.entries.items);
      account : Account (entry_numbers (take l.fn.start l.fn.entries.items) ++ entry_numbers (drop l.i l.fn.entries.items)) l.settled.items l.outcomes.items;
      settled : l.settled.items ++ entry_numbers (drop l.i l.fn.entries.items) ≡ l.fn.settled.items ++ entry_numbers (drop l.fn.start l.fn.entries.items);
      len : vec_len l.outcomes ≡ vec_len l.fn.outcomes;
      room : vec_capacity l.outcomes ≡ vec_capacity l.fn.outcomes;
      settled_room : vec_capacity l.settled ≡ vec_capacity l.fn.settled;
    }
