use Rattle.std.proofs.Common.{ap, ◌∙◌}
use Rattle.pl_part.specs.Keeping.{kept_stages}
use Rattle.pl_part.specs.Paths.{PathPartView}
use Rattle.pl_part.proofs.paths.PathPart.into_stages_and_tail.Goals as goal

pub returns-clause-stages : goal.returns-clause-stages
returns-clause-stages g c = c.in_ok-stages.ensures ∙ ap (λ (p : PathPartView _). kept_stages p.contexts) c.self.view_is

pub returns-clause-tail : goal.returns-clause-tail
returns-clause-tail g c = ap (λ (p : PathPartView _). p.tail) c.self.view_is
