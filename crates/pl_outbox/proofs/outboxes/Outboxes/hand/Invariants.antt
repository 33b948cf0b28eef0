use Rattle.pl_outbox.specs.OutboxViews.{KeepsAll, Stays}
use Rattle.pl_outbox.proofs.outboxes.Outboxes.hand.Given as goal

abbrev pub invariant-loop : goal.invariant-loop
invariant-loop g l = record {
  keeps : KeepsAll l.fn.self l.self;
  stays : Stays l.fn.self l.self;
}
