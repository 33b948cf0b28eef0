use Rattle.std.proofs.Common.{sym, subst}
use Rattle.pl_part.specs.Paths.{PathPartView, PathHolds}
use Rattle.pl_part.proofs.Forgotten.{hands-over, none-over, path-hands}
use Rattle.pl_part.proofs.paths.PathPart.take_record.Goals as goal
use Rattle.pl_part.proofs.paths.PathPart.take_record.Goals.{in-Some, in-None}

pub invariant_of-self : goal.invariant_of-self
invariant_of-self g c = elim c.match-self.branch [
  | in-Some w ↦ rw w.self-inside-is c.self.invariant
  | in-None w ↦ rw w.self-inside-is c.self.invariant
]

pub returns-clause-goes_on : goal.returns-clause-goes_on
returns-clause-goes_on g c = elim c.match-self.branch [
  | in-Some w ↦ rw w.self-inside-is (hands-over _ _ c.self.view_is w.in-Some.tail w.take_record.new.self w.in-Some.is w.take_record.ensures.goes_on)
  | in-None w ↦ rw w.self-inside-is (none-over _ _ c.self.view_is w.in-None.is)
]

pub returns-clause-holds : goal.returns-clause-holds
returns-clause-holds g c = λ world holds.
    subst (λ (p : PathPartView _). PathHolds world g.S.Stage.meaning g.S.Stage.stands_after p) (sym (returns-clause-goes_on g c)) (path-hands world g.S.Stage.meaning g.S.Stage.stands_after c.args.self.now holds)
