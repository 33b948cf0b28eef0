use Rattle.std.proofs.Common.{rules, sym, ◌∙◌}
use denote.Enum.Bare.{same_true}
use Rattle.pl_threads.specs.contracts.executors.Turn.{the_type}
use Rattle.pl_threads.specs.declared.executors.Turn.TheVariants.{Done}
use Rattle.pl_threads.proofs.executors.Executor.run.Goals as goal

pub loop-init : goal.loop-init
loop-init g c = (c.turn-turn.ensures.number, c.turn-turn.ensures.name, c.turn-turn.ensures.entered, c.turn-turn.ensures.done)

pub loop-preserved : goal.loop-preserved
loop-preserved g c = (c.turn-turn-in-loop.ensures.number ∙ c.loop.invariant.0, c.turn-turn-in-loop.ensures.name ∙ c.loop.invariant.1, c.loop.invariant.2, c.turn-turn-in-loop.ensures.done)

pub into_finished-requires : goal.into_finished-requires
into_finished-requires g c =
    let done = c.loop.invariant.3 (same_true the_type (search rules) c.loop.turn Done (sym c.eq.ensures ∙ c.if-eq.true)) in
    record { over = done.1; closed = done.0; drained = done.2 }
