use Rattle.std.proofs.Common.{◌≡◌, ℕ, List, subst}
use Rattle.std.specs.Prelude.{IfSome, IfNone}
use Rattle.pl_context.specs.WaitingViews.{Entry, Holds}
use Rattle.pl_words.specs.Admissions.{AdmittedView}
use Rattle.pl_outbox.specs.OutboxViews.{SameFor, Sends, oldest_untried}
use Rattle.pl_threads.specs.Running.{ExecutorView}
use Rattle.pl_threads.proofs.RunLemmas.{holds-stay}
use Rattle.pl_threads.proofs.executors.Executor.hand.Goals as goal

pub invariant_of-self : goal.invariant_of-self
invariant_of-self g c =
    let i = c.self.invariant in (holds-stay i.0 c.hand.ensures.stays, i.1, i.2, i.3, i.4, i.5, i.6)

pub returns-clause-handed : goal.returns-clause-handed
returns-clause-handed g c = subst (λ (v : ExecutorView g.row.N.Denot). IfSome c.hand.result (λ way. Sends v.outboxes way c.hand.new.self)) c.self.view_is c.hand.ensures.handed

pub returns-clause-none : goal.returns-clause-none
returns-clause-none g c = subst (λ (v : ExecutorView g.row.N.Denot). IfNone c.hand.result ((y : ℕ) → SameFor v.outboxes c.hand.new.self y)) c.self.view_is c.hand.ensures.none

pub returns-clause-oldest : goal.returns-clause-oldest
returns-clause-oldest g c =
    subst (λ (v : ExecutorView g.row.N.Denot). (entries : List (Entry AdmittedView)) → Holds v.outboxes.waiting entries → c.hand.result ≡ oldest_untried c.hand.new.self entries) c.self.view_is
    c.hand.ensures.oldest
