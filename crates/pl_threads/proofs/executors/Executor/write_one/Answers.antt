use Rattle.std.proofs.Common.{sym, subst}
use Rattle.pl_threads.specs.Running.{ExecutorView}
use Rattle.pl_threads.specs.Turning.{ServesOne}
use Rattle.pl_threads.proofs.TurnLemmas.{serves-none, serves-write}
use Rattle.pl_threads.proofs.executors.Executor.write_one.Goals as goal

pub returns-in_default-clause-moves : goal.returns-in_default-clause-moves
returns-in_default-clause-moves g c = serves-none g.N.OwnNodes.view_of g.N.OwnNodes.acts c.args.self.now

pub returns-then-not-move_head-clause-moves : goal.returns-then-not-move_head-clause-moves
returns-then-not-move_head-clause-moves g c =
    let made = c.move_head.ensures in
    subst (λ (v : ExecutorView g.row.N.Denot). ServesOne g.N.OwnNodes.view_of g.N.OwnNodes.acts c.args.self.now v) (sym c.self.view_is)
    (serves-write g.N.OwnNodes.view_of g.N.OwnNodes.acts c.in-Some.at c.args.self.now c.move_head.new.self c.move_head.result made.serves made.idle made.moves)

pub returns-else-not-move_head-clause-moves : goal.returns-else-not-move_head-clause-moves
returns-else-not-move_head-clause-moves g c =
    let made = c.move_head.ensures in
    serves-write g.N.OwnNodes.view_of g.N.OwnNodes.acts c.in-Some.at c.args.self.now c.move_head.new.self c.move_head.result made.serves made.idle made.moves
