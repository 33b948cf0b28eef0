use Rattle.std.proofs.Common.{refl}
use Rattle.pl_stages.proofs.line_service.written.Goals as goal

pub returns : goal.returns
returns c = refl
