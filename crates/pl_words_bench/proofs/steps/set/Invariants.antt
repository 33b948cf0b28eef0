use Rattle.std.proofs.Common.{◌≡◌}
use Rattle.pl_words_bench.proofs.steps.set.Given as goal

abbrev pub invariant-loop-time : goal.invariant-loop-time
invariant-loop-time l = (l.head.name ≡ l.watermark.name) × (l.head.low ≡ 0) × (l.head.high ≡ 8) × (l.head.sets ≡ l.time)
