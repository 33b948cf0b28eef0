use Rattle.std.proofs.Common.{◌≡◌}
use Rattle.pl_words_bench.proofs.steps.settle.Given as goal

abbrev pub invariant-loop-time : goal.invariant-loop-time
invariant-loop-time l = l.seat.name ≡ l.promises.name
