use Rattle.std.proofs.Common.{sym, subst}
use Rattle.pl_threads.specs.Running.{ExecutorView}
use Rattle.pl_threads.specs.Turning.{OnlyServes, ServesOne}
use Rattle.pl_threads.proofs.TurnLemmas.{nothing-then, hand-sends, hands-one, tasks-one, serves-none}
use Rattle.pl_threads.proofs.executors.Executor.moves.Goals as goal

pub returns-then-ran-2-clause-sends : goal.returns-then-ran-2-clause-sends
returns-then-ran-2-clause-sends g c =
    let serves = subst (λ (v : ExecutorView g.row.N.Denot). OnlyServes v c.write_one.new.self) c.self.view_is c.write_one.ensures.serves in
    hand-sends c.args.self.now.outboxes c.hand.new.self.outboxes c.write_one.new.self.outboxes c.hand.result c.hand.ensures.handed c.hand.ensures.none c.hand.ensures.oldest
    (nothing-then c.hand.new.self.outboxes c.run_task-ran.new.self.outboxes c.write_one.new.self.outboxes c.run_task-ran.ensures.sends serves.sends)

pub returns-clause-sends : goal.returns-clause-sends
returns-clause-sends g c =
    let serves = c.move_heads.ensures.serves in
    hand-sends c.args.self.now.outboxes c.hand.new.self.outboxes c.move_heads.new.self.outboxes c.hand.result c.hand.ensures.handed c.hand.ensures.none c.hand.ensures.oldest
    (nothing-then c.hand.new.self.outboxes c.run_task-ran.new.self.outboxes c.move_heads.new.self.outboxes c.run_task-ran.ensures.sends serves.sends)

pub returns-then-ran-2-clause-does : goal.returns-then-ran-2-clause-does
returns-then-ran-2-clause-does g c =
    let task = c.run_task-ran.ensures in record {
      handed = c.hand.new.self;
      ran = c.run_task-ran.new.self;
      hands = hands-one c.args.self.now c.hand.new.self c.hand.result c.hand.ensures.same c.hand.ensures.handed c.hand.ensures.none;
      tasks = tasks-one g.N.OwnNodes.view_of g.N.OwnNodes.acts c.hand.new.self c.run_task-ran.new.self c.run_task-ran.result task.number task.owner task.turns task.none task.task;
      serves = subst (λ (v : ExecutorView g.row.N.Denot). ServesOne g.N.OwnNodes.view_of g.N.OwnNodes.acts v c.write_one.new.self) c.self.view_is c.write_one.ensures.moves;
    }

pub returns-else-ran-2-clause-does : goal.returns-else-ran-2-clause-does
returns-else-ran-2-clause-does g c =
    let task = c.run_task-ran.ensures in record {
      handed = c.hand.new.self;
      ran = c.run_task-ran.new.self;
      hands = hands-one c.args.self.now c.hand.new.self c.hand.result c.hand.ensures.same c.hand.ensures.handed c.hand.ensures.none;
      tasks = tasks-one g.N.OwnNodes.view_of g.N.OwnNodes.acts c.hand.new.self c.run_task-ran.new.self c.run_task-ran.result task.number task.owner task.turns task.none task.task;
      serves = subst (λ (v : ExecutorView g.row.N.Denot). ServesOne g.N.OwnNodes.view_of g.N.OwnNodes.acts c.run_task-ran.new.self v) (sym c.self.view_is)
          (serves-none g.N.OwnNodes.view_of g.N.OwnNodes.acts c.run_task-ran.new.self);
    }

pub returns-clause-does : goal.returns-clause-does
returns-clause-does g c =
    let task = c.run_task-ran.ensures in record {
      handed = c.hand.new.self;
      ran = c.run_task-ran.new.self;
      hands = hands-one c.args.self.now c.hand.new.self c.hand.result c.hand.ensures.same c.hand.ensures.handed c.hand.ensures.none;
      tasks = tasks-one g.N.OwnNodes.view_of g.N.OwnNodes.acts c.hand.new.self c.run_task-ran.new.self c.run_task-ran.result task.number task.owner task.turns task.none task.task;
      serves = c.move_heads.ensures.moves;
    }
