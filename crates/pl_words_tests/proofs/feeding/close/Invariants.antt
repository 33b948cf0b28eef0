use Rattle.std.proofs.Common.{◌≡◌}
use Rattle.pl_words.specs.declared.status.Status.TheVariants.{Closing}
use Rattle.pl_words_tests.proofs.feeding.close.Given as goal

abbrev pub invariant-loop-time : goal.invariant-loop-time
invariant-loop-time l = (l.owner.name ≡ l.fn.owner.name) × (l.owner.phase ≡ Closing)
