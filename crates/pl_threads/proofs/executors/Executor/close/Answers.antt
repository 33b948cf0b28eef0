use Rattle.std.proofs.Common.{inr, refl}
use Rattle.pl_threads.proofs.executors.Executor.close.Goals as goal

pub returns-then-not-has_ended-clause-over : goal.returns-then-not-has_ended-clause-over
returns-then-not-has_ended-clause-over g c = inr (refl, refl)
