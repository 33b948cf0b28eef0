use Rattle.std.proofs.Common.{refl}
use Rattle.pl_head.proofs.heads.Head.take_open.Goals as goal

pub returns-in-End-clause-answer : goal.returns-in-End-clause-answer
returns-in-End-clause-answer g c = rw c.in-End.is refl
