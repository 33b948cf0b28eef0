use Rattle.std.proofs.Common.{refl}
use Rattle.pl_head.proofs.heads.Head.new.Goals as goal

pub returns-clause-at_hop : goal.returns-clause-at_hop
returns-clause-at_hop g c = (refl, refl)

pub returns-clause-closed : goal.returns-clause-closed
returns-clause-closed g c = refl
