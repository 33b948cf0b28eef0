use Rattle.std.proofs.Common.{subst}
use Rattle.pl_outbox.specs.OutboxViews.{OutboxesView, Forgets}
use Rattle.pl_outbox.proofs.OfferSteps.{forgets}
use Rattle.pl_outbox.proofs.outboxes.Outboxes.forget_tries.Goals as goal

pub returns-clause-forgets : goal.returns-clause-forgets
returns-clause-forgets g c =
    subst (λ (v : OutboxesView). Forgets v (record { outboxes = c.self.inside.outboxes.items; waiting = c.self.inside.waiting; tried = c.clear.new.self.tried; ways = c.self.inside.ways.items })) c.self.view_is
    (forgets c.self.inside.outboxes.items c.self.inside.waiting c.self.inside.tries.tried c.clear.new.self.tried c.self.inside.ways.items)
