use Rattle.std.proofs.Common.{◌≡◌, ℕ, true, [], subst}
use Rattle.pl_outbox.specs.OutboxViews.{waits_for}
use Rattle.pl_threads.specs.Running.{ExecutorView}
use Rattle.pl_threads.proofs.executors.Executor.has_handed_all.Goals as goal

pub returns : goal.returns
returns g c = subst (λ (v : ExecutorView g.row.N.Denot). c.is_empty.result ≡ true → (y : ℕ) → waits_for v.outboxes y ≡ []) c.self.view_is c.is_empty.ensures.empty
