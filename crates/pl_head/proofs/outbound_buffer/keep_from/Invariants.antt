use Rattle.std.proofs.Common.{◌≡◌, ◌≤◌, length, take, drop, vec_capacity}
use Rattle.pl_head.specs.Settling.{numbers_from}
use Rattle.pl_head.proofs.outbound_buffer.keep_from.Given as goal

abbrev pub invariant-loop-i : goal.invariant-loop-i
invariant-loop-i l =
    record {
      within : l.kept ≤ l.i;
      length : length l.numbers.items ≡ length l.fn.numbers.items;
      kept : take l.kept l.numbers.items ≡ numbers_from l.fn.first (take l.i l.fn.numbers.items);
      left : drop l.i l.numbers.items ≡ drop l.i l.fn.numbers.items;
      capacity : vec_capacity l.numbers ≡ vec_capacity l.fn.numbers;
    }
