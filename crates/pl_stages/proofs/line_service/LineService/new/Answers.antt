use Rattle.std.proofs.Common.{[], refl}
use Rattle.pl_stages.proofs.line_service.LineService.new.Goals as goal

pub returns-clause-stands : goal.returns-clause-stands
returns-clause-stands c = c.new-2.ensures.stands [] (refl, c.new.ensures)
