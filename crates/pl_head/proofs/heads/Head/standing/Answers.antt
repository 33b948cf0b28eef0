use Rattle.std.proofs.Common.{refl}
use Rattle.pl_head.proofs.heads.Head.standing.Goals as goal

pub returns : goal.returns
returns g c = rw (← c.self.view_is) refl
