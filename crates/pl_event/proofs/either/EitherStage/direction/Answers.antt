use Rattle.pl_event.proofs.either.EitherStage.direction.Goals as goal

pub returns-in-Left : goal.returns-in-Left
returns-in-Left g c = rw c.in-Left.is c.direction.ensures

pub returns-in-Right : goal.returns-in-Right
returns-in-Right g c = rw c.in-Right.is c.direction-in-Right.ensures
