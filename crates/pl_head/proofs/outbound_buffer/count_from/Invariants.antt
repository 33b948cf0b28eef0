use Rattle.std.proofs.Common.{◌≡◌, length, take}
use Rattle.pl_head.specs.Settling.{numbers_from}
use Rattle.pl_head.proofs.outbound_buffer.count_from.Given as goal

abbrev pub invariant-loop-i : goal.invariant-loop-i
invariant-loop-i l = l.count ≡ length (numbers_from l.first (take l.i l.numbers))
