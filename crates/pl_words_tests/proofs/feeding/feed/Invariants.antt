use Rattle.std.proofs.Common.{◌≤◌}
use Rattle.pl_words_tests.specs.Feeding.{Fed}
use Rattle.pl_words_tests.proofs.feeding.feed.Given as goal

abbrev pub invariant-loop-time : goal.invariant-loop-time
invariant-loop-time l = Fed l.fn.seat l.sent l.seat × (l.sent ≤ l.time)
