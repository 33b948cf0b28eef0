use Rattle.std.proofs.Common.{refl}
use Rattle.pl_event.proofs.bare_stages.Fused.new.Goals as goal

pub returns : goal.returns
returns g c = record { meaning = refl; stands = λ xs stood. stood; fresh = λ stood. stood; unspent = refl }
