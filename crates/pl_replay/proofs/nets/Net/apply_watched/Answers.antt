use Rattle.std.proofs.Common.{rules, Bool, Ok, ap, sym, ◌∙◌, refl, false}
use Rattle.pl_net.specs.Stations.{stations_view}
use Rattle.pl_world.specs.declared.moves.Move.TheVariants.{Read, Task, Hand, Out}
use Rattle.pl_channel.specs.Lanes.{world_of}
use Rattle.pl_channel.specs.Channels.{home_of}
use Rattle.pl_replay.specs.MoveModel.{is_there}
use Rattle.pl_replay.specs.Moves.{nodes_view, nodes_stand}
use Rattle.pl_replay.proofs.Applied.{applied, out-of-memory}
use Rattle.pl_replay.proofs.MoveSteps.{GoesOn, not-moved, stands-on, made-goes-on, head-goes-on, head-home, task-enabled, hand-goes-on, room-goes-on}
use Rattle.pl_net.proofs.StationSteps.{rest-stands}
use Rattle.pl_replay.proofs.nets.Net.apply_watched.Goals as goal
use Rattle.pl_replay.proofs.nets.Net.apply_watched.Goals.{After-move_head, After-move_head-in-Out, After-run_task, In_ok-hand-in-Hand}

pub move_head-requires-clause-home : goal.move_head-requires-clause-home
move_head-requires-clause-home g c =
    head-home g.S.Stage.meaning g.S.Stage.stands_after g.T.Transport.state c.self.inside.stations _ c.self.view_is c.in-Read.channel
    (λ plan backlogs n. sym (ap (is_there plan) c.in-Read.is) ∙ sym (c.is_there.ensures plan backlogs n) ∙ c.if-not-is_there.false) c.self.invariant

pub move_head-requires-in-Out-clause-home : goal.move_head-requires-in-Out-clause-home
move_head-requires-in-Out-clause-home g c =
    head-home g.S.Stage.meaning g.S.Stage.stands_after g.T.Transport.state c.self.inside.stations _ c.self.view_is c.in-Out.channel
    (λ plan backlogs n. sym (ap (is_there plan) c.in-Out.is) ∙ sym (c.is_there.ensures plan backlogs n) ∙ c.if-not-is_there.false) c.self.invariant

read-made : (g : _) (c : After-move_head g) → GoesOn g.S.Stage.meaning g.S.Stage.stands_after g.S.Stage.is_spent g.T.Transport.state g.T.Transport.may_refuse (Read c.in-Read.channel) c.self.inside.stations c.move_head.result c.move_head.new.self
read-made g c = head-goes-on g.S.Stage.meaning g.S.Stage.stands_after g.S.Stage.is_spent g.T.Transport.state g.T.Transport.may_refuse (Read c.in-Read.channel) c.self.inside.stations c.move_head.new.self c.move_head.result (home_of c.self.inside.stations.nodes.parts.items c.in-Read.channel)
    (λ _ _. c.move_head.ensures.enabled) (λ yes _. c.move_head.ensures.runs yes) c.move_head.ensures.idle c.move_head.ensures.capacity c.move_head.ensures.count c.move_head.ensures.rests

write-made : (g : _) (c : After-move_head-in-Out g) → GoesOn g.S.Stage.meaning g.S.Stage.stands_after g.S.Stage.is_spent g.T.Transport.state g.T.Transport.may_refuse (Out c.in-Out.channel) c.self.inside.stations c.move_head-in-Out.result c.move_head-in-Out.new.self
write-made g c = head-goes-on g.S.Stage.meaning g.S.Stage.stands_after g.S.Stage.is_spent g.T.Transport.state g.T.Transport.may_refuse (Out c.in-Out.channel) c.self.inside.stations c.move_head-in-Out.new.self c.move_head-in-Out.result (home_of c.self.inside.stations.nodes.parts.items c.in-Out.channel)
    (λ _ _. c.move_head-in-Out.ensures.enabled) (λ yes _. c.move_head-in-Out.ensures.runs yes) c.move_head-in-Out.ensures.idle c.move_head-in-Out.ensures.capacity c.move_head-in-Out.ensures.count c.move_head-in-Out.ensures.rests

task-made : (g : _) (c : After-run_task g) → GoesOn g.S.Stage.meaning g.S.Stage.stands_after g.S.Stage.is_spent g.T.Transport.state g.T.Transport.may_refuse (Task c.in-Task.executor) c.self.inside.stations c.run_task.result c.run_task.new.self
task-made g c = λ plan backlogs n.
    made-goes-on g.S.Stage.meaning g.S.Stage.stands_after g.S.Stage.is_spent g.T.Transport.state g.T.Transport.may_refuse (Task c.in-Task.executor) c.self.inside.stations c.run_task.new.self c.run_task.result c.in-Task.executor plan backlogs
    (task-enabled g.S.Stage.meaning g.S.Stage.stands_after g.S.Stage.is_spent g.T.Transport.state g.T.Transport.may_refuse (stations_view c.self.inside.stations backlogs) c.in-Task.executor c.run_task.result (λ yes. let r = c.run_task.ensures.runs yes (world_of false plan) backlogs (rest-stands (nodes_view g.S.Stage.meaning) (nodes_stand g.S.Stage.meaning g.S.Stage.stands_after g.T.Transport.state) (world_of false plan) 0 c.in-Task.executor (stations_view c.self.inside.stations backlogs) n.rests n.stands) in (stations_view c.run_task.new.self r.0, r.2)) (λ no. (c.run_task.ensures.idle no).0))
    (λ yes. c.run_task.ensures.runs yes (world_of false plan) backlogs (rest-stands (nodes_view g.S.Stage.meaning) (nodes_stand g.S.Stage.meaning g.S.Stage.stands_after g.T.Transport.state) (world_of false plan) 0 c.in-Task.executor (stations_view c.self.inside.stations backlogs) n.rests n.stands))
    (λ no. (c.run_task.ensures.idle no).1)
    c.run_task.ensures.capacity
    c.run_task.ensures.count
    c.run_task.ensures.rests
    n

hand-made : (g : _) (c : In_ok-hand-in-Hand g) → GoesOn g.S.Stage.meaning g.S.Stage.stands_after g.S.Stage.is_spent g.T.Transport.state g.T.Transport.may_refuse (Hand c.in-Hand.executor) c.self.inside.stations c.in_ok-hand-in-Hand.field-0 c.hand.new.self
hand-made g c = λ plan backlogs n.
    hand-goes-on g.S.Stage.meaning g.S.Stage.stands_after g.S.Stage.is_spent g.T.Transport.state g.T.Transport.may_refuse c.self.inside.stations c.hand.new.self c.in_ok-hand-in-Hand.field-0 c.in-Hand.executor plan backlogs
    (λ yes. c.in_ok-hand-in-Hand.ensures.hands (ap (λ (b : Bool). Ok b) yes) (world_of false plan) 0 backlogs n.stands)
    (λ no. c.in_ok-hand-in-Hand.ensures.none (ap (λ (b : Bool). Ok b) no) (world_of false plan) 0 backlogs n.stands)
    (λ no. c.in_ok-hand-in-Hand.ensures.idle (ap (λ (b : Bool). Ok b) no))
    c.hand.ensures.capacity
    c.hand.ensures.count
    n

pub returns-in-Read : goal.returns-in-Read
returns-in-Read g c = record {
  applied = applied g.S.Stage.meaning g.S.Stage.stands_after g.S.Stage.is_spent g.T.Transport.state g.T.Transport.may_refuse c.args.step (Read c.in-Read.channel) c.in-Read.is c.self.inside.stations _ c.self.view_is c.is_there.result c.if-not-is_there.false c.is_there.ensures
      c.move_head.result c.move_head.new.self (read-made g c) (λ no. not-moved c.self.inside.stations c.move_head.new.self (c.move_head.ensures.idle no));
}

pub returns-in-Out : goal.returns-in-Out
returns-in-Out g c = record {
  applied = applied g.S.Stage.meaning g.S.Stage.stands_after g.S.Stage.is_spent g.T.Transport.state g.T.Transport.may_refuse c.args.step (Out c.in-Out.channel) c.in-Out.is c.self.inside.stations _ c.self.view_is c.is_there.result c.if-not-is_there.false c.is_there.ensures
      c.move_head-in-Out.result c.move_head-in-Out.new.self (write-made g c) (λ no. not-moved c.self.inside.stations c.move_head-in-Out.new.self (c.move_head-in-Out.ensures.idle no));
}

pub returns-in-Task : goal.returns-in-Task
returns-in-Task g c = record {
  applied = applied g.S.Stage.meaning g.S.Stage.stands_after g.S.Stage.is_spent g.T.Transport.state g.T.Transport.may_refuse c.args.step (Task c.in-Task.executor) c.in-Task.is c.self.inside.stations _ c.self.view_is c.is_there.result c.if-not-is_there.false c.is_there.ensures
      c.run_task.result c.run_task.new.self (task-made g c) (λ no. (c.run_task.ensures.idle no).1);
}

pub returns-in_ok-hand-in-Hand : goal.returns-in_ok-hand-in-Hand
returns-in_ok-hand-in-Hand g c = record {
  applied = applied g.S.Stage.meaning g.S.Stage.stands_after g.S.Stage.is_spent g.T.Transport.state g.T.Transport.may_refuse c.args.step (Hand c.in-Hand.executor) c.in-Hand.is c.self.inside.stations _ c.self.view_is c.is_there.result c.if-not-is_there.false c.is_there.ensures
      c.in_ok-hand-in-Hand.field-0 c.hand.new.self (hand-made g c) (λ no. not-moved c.self.inside.stations c.hand.new.self (c.in_ok-hand-in-Hand.ensures.idle (ap (λ (b : Bool). Ok b) no)));
}

pub invariant_of-self : goal.invariant_of-self
invariant_of-self g c = stands-on g.S.Stage.meaning g.S.Stage.stands_after g.S.Stage.is_spent g.T.Transport.state g.T.Transport.may_refuse (Read c.in-Read.channel) c.self.inside.stations c.move_head.result c.move_head.new.self (read-made g c) c.self.invariant

pub invariant_of-self-in-Out : goal.invariant_of-self-in-Out
invariant_of-self-in-Out g c = stands-on g.S.Stage.meaning g.S.Stage.stands_after g.S.Stage.is_spent g.T.Transport.state g.T.Transport.may_refuse (Out c.in-Out.channel) c.self.inside.stations c.move_head-in-Out.result c.move_head-in-Out.new.self (write-made g c) c.self.invariant

pub invariant_of-self-in-Task : goal.invariant_of-self-in-Task
invariant_of-self-in-Task g c = stands-on g.S.Stage.meaning g.S.Stage.stands_after g.S.Stage.is_spent g.T.Transport.state g.T.Transport.may_refuse (Task c.in-Task.executor) c.self.inside.stations c.run_task.result c.run_task.new.self (task-made g c) c.self.invariant

pub invariant_of-self-in_err-hand-in-Hand : goal.invariant_of-self-in_err-hand-in-Hand
invariant_of-self-in_err-hand-in-Hand g c =
    let w = c.self.invariant in (
      w.0,
      w.1,
      room-goes-on g.S.Stage.meaning g.S.Stage.stands_after g.S.Stage.is_spent g.T.Transport.state g.T.Transport.may_refuse c.self.inside.stations c.hand.new.self w.0 w.1 c.in_err-hand-in-Hand.ensures.err (c.in_err-hand-in-Hand.ensures.stays (world_of false w.0) 0 w.1 w.2.stands)
          c.hand.ensures.capacity c.hand.ensures.count w.2,
    )

pub returns-in_err-hand-in-Hand : goal.returns-in_err-hand-in-Hand
returns-in_err-hand-in-Hand g c = record {
  applied = out-of-memory g.S.Stage.meaning g.S.Stage.stands_after g.S.Stage.is_spent g.T.Transport.state g.T.Transport.may_refuse c.args.step (Hand c.in-Hand.executor) c.in-Hand.is c.self.inside.stations _ c.self.view_is c.is_there.result c.if-not-is_there.false c.is_there.ensures
      c.in-Hand.executor refl c.hand.new.self c.from_residual.result (search rules) c.in_err-hand-in-Hand.ensures.err c.in_err-hand-in-Hand.ensures.stays c.in_err-hand-in-Hand.ensures.wanted c.in_err-hand-in-Hand.ensures.refused c.hand.ensures.capacity c.hand.ensures.count;
}
