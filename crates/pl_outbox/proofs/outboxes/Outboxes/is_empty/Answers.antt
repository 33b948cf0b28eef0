use Rattle.std.proofs.Common.{◌≡◌, ◌==◌, [], List, length, sym, subst, ◌∙◌, ℕ}
use Rattle.pl_context.specs.WaitingViews.{Entry, Holds}
use Rattle.pl_words.specs.Admissions.{AdmittedView}
use Rattle.pl_outbox.specs.OutboxViews.{OutboxesView, waits_for}
use Rattle.pl_outbox.proofs.OutboxLemmas.{none-wait}
use Rattle.pl_outbox.proofs.outboxes.Outboxes.is_empty.Goals as goal

pub returns-clause-empty : goal.returns-clause-empty
returns-clause-empty g c = λ e.
    let is = c.self.invariant.0 in
    subst (λ (v : OutboxesView). (y : ℕ) → waits_for v y ≡ []) c.self.view_is
    (none-wait c.self.inside.waiting is.entries is.holds (sym (c.is_empty.ensures is.entries is.holds) ∙ e))

pub returns-clause-counts : goal.returns-clause-counts
returns-clause-counts g c = subst (λ (v : OutboxesView). (entries : List (Entry AdmittedView)) → Holds v.waiting entries → c.is_empty.result ≡ (length entries == 0)) c.self.view_is c.is_empty.ensures
