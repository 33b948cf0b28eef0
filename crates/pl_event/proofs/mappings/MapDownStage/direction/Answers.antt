use Rattle.std.proofs.Common.{refl}
use Rattle.pl_event.proofs.mappings.MapDownStage.direction.Goals as goal

pub returns : goal.returns
returns g c = refl
