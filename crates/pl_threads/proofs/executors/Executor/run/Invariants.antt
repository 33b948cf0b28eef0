use Rattle.std.proofs.Common.{◌≡◌, ℕ, [], true}
use Rattle.pl_outbox.specs.OutboxViews.{is_closed, waits_for}
use Rattle.pl_threads.specs.declared.executors.Turn.TheVariants.{Done}
use Rattle.pl_threads.proofs.executors.Executor.run.Given as goal

abbrev pub invariant-loop : goal.invariant-loop
invariant-loop g l =
    (l.self.number ≡ l.fn.self.number)
    × (l.self.owner.name ≡ l.fn.self.owner.name)
    × g.G.Gate.was_entered l.fn.gate l.fn.self.number l.fn.self.turns
    × (l.turn ≡ Done → (is_closed l.self.owner.phase ≡ true) × g.N.OwnNodes.are_over l.self.nodes × ((y : ℕ) → waits_for l.self.outboxes y ≡ []))
