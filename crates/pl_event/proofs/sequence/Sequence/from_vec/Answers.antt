use Rattle.std.proofs.Common.{refl}
use Rattle.pl_event.proofs.sequence.Sequence.from_vec.Goals as goal

pub returns : goal.returns
returns g c = refl
