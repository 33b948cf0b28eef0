use Rattle.std.proofs.Common.{rules, ℕ, ◌+◌, ◌-◌, ◌^◌, min, ap, ◌∙◌}
use Rattle.pl_threads.specs.Running.{ExecutorView}
use Rattle.pl_threads.proofs.TurnLemmas.{turns-kept, turns-closed}
use Rattle.pl_threads.proofs.executors.Executor.turn.Goals as goal

pub returns-then-has_worked-clause-turns : goal.returns-then-has_worked-clause-turns
returns-then-has_worked-clause-turns g c =
    c.saturating_add-self-inside.ensures ∙ ap (λ (v : ExecutorView g.row.N.Denot). min (v.turns + 1) (2 ^ 64 - 1)) c.self-2.view_is ∙ ap (λ (n : ℕ). min (n + 1) (2 ^ 64 - 1)) c.moves-has_worked.ensures.turns

-- the gate was told before anything moves
pub moves-has_worked-requires : goal.moves-has_worked-requires
moves-has_worked-requires g c = record { entered = rw (← c.self.view_is) (search rules depth 2) }

pub invariant_of-self : goal.invariant_of-self
invariant_of-self g c = c.self-2.invariant

pub returns-then-has_worked-clause-does : goal.returns-then-has_worked-clause-does
returns-then-has_worked-clause-does g c =
    let moves = c.moves-has_worked in
    turns-kept g.N.OwnNodes.view_of g.N.OwnNodes.acts c.args.self.now moves.new.self _ moves.ensures.does c.self-2.view_is moves.ensures.owner moves.ensures.turns

pub returns-then-has_handed_all-clause-does : goal.returns-then-has_handed_all-clause-does
returns-then-has_handed_all-clause-does g c =
    let moves = c.moves-has_worked in
    turns-closed g.N.OwnNodes.view_of g.N.OwnNodes.acts c.args.self.now moves.new.self _ c.close.new.self _ moves.ensures.does c.self-2.view_is moves.ensures.owner moves.ensures.turns c.close.ensures.same

pub returns-clause-does : goal.returns-clause-does
returns-clause-does g c =
    let moves = c.moves-has_worked in
    turns-closed g.N.OwnNodes.view_of g.N.OwnNodes.acts c.args.self.now moves.new.self _ c.close.new.self _ moves.ensures.does c.self-2.view_is moves.ensures.owner moves.ensures.turns c.close.ensures.same
