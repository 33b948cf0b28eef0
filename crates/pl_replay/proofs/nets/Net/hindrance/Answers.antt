use Rattle.pl_replay.proofs.nets.Net.hindrance.Goals as goal

pub returns-in-Read : goal.returns-in-Read
returns-in-Read g c = rw c.in-Read.is c.read_hindrance.ensures

pub returns-in-Task : goal.returns-in-Task
returns-in-Task g c = rw c.in-Task.is c.task_hindrance.ensures

pub returns-in-Hand : goal.returns-in-Hand
returns-in-Hand g c = rw c.in-Hand.is c.hand_hindrance.ensures

pub returns-in-Out : goal.returns-in-Out
returns-in-Out g c = rw c.in-Out.is c.write_hindrance.ensures
