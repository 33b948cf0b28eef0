use Rattle.std.proofs.Common.{◌∙◌}
use Rattle.pl_event.proofs.keys.Key.as_slice.Goals as goal

pub returns-clause-name : goal.returns-clause-name
returns-clause-name c = c.as_slice.ensures.value ∙ c.self.view_is
