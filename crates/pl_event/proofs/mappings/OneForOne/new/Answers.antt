use Rattle.std.proofs.Common.{refl}
use Rattle.pl_event.proofs.mappings.OneForOne.new.Goals as goal

pub returns : goal.returns
returns g c = record { mapping = refl; unspent = refl }
