use Rattle.std.proofs.Common.{sym, subst}
use Rattle.pl_threads.specs.Running.{ExecutorView}
use Rattle.pl_threads.specs.Turning.{ServesOne}
use Rattle.pl_threads.proofs.TurnLemmas.{serves-none}
use Rattle.pl_threads.proofs.executors.Executor.move_heads.Goals as goal

pub returns-then-self-ge-MANY_HANDED-clause-moves : goal.returns-then-self-ge-MANY_HANDED-clause-moves
returns-then-self-ge-MANY_HANDED-clause-moves g c =
    subst (λ (v : ExecutorView g.row.N.Denot). ServesOne g.N.OwnNodes.view_of g.N.OwnNodes.acts c.args.self.now v) (sym c.self.view_is)
    (serves-none g.N.OwnNodes.view_of g.N.OwnNodes.acts c.args.self.now)
