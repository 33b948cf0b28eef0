use Rattle.pl_threads.proofs.TurnLemmas.{serves-none}
use Rattle.pl_threads.proofs.executors.Executor.write_while_waiting.Goals as goal

pub returns-then-self-clause-moves : goal.returns-then-self-clause-moves
returns-then-self-clause-moves g c = serves-none g.N.OwnNodes.view_of g.N.OwnNodes.acts c.args.self.now
