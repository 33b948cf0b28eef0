use Rattle.std.proofs.Common.{sym, subst}
use Rattle.pl_threads.specs.Running.{ExecutorView}
use Rattle.pl_threads.specs.Turning.{ServesOne}
use Rattle.pl_threads.proofs.TurnLemmas.{serves-none}
use Rattle.pl_threads.proofs.executors.Executor.serve_first.Goals as goal

pub returns-in_default-clause-moves : goal.returns-in_default-clause-moves
returns-in_default-clause-moves g c = serves-none g.N.OwnNodes.view_of g.N.OwnNodes.acts c.args.self.now

pub returns-clause-moves : goal.returns-clause-moves
returns-clause-moves g c =
    subst (λ (v : ExecutorView g.row.N.Denot). ServesOne g.N.OwnNodes.view_of g.N.OwnNodes.acts c.args.self.now v) (sym c.loop-asked.invariant.still)
    (serves-none g.N.OwnNodes.view_of g.N.OwnNodes.acts c.args.self.now)
