use Rattle.std.proofs.Common.{ap, ◌∙◌}
use Rattle.pl_part.specs.Keeping.{part_stages}
use Rattle.pl_part.specs.Parts.{ChannelPartView}
use Rattle.pl_part.proofs.parts.ChannelPart.into_stages_and_ends.Goals as goal

pub returns-clause-stages : goal.returns-clause-stages
returns-clause-stages g c = c.in_ok-stages.ensures.stages ∙ ap (λ (p : ChannelPartView _ _). part_stages p) c.self.view_is

pub returns-clause-tail : goal.returns-clause-tail
returns-clause-tail g c = c.in_ok-stages.ensures.tail ∙ ap (λ (p : ChannelPartView _ _). p.path.tail) c.self.view_is

pub returns-clause-head : goal.returns-clause-head
returns-clause-head g c = ap (λ (p : ChannelPartView _ _). p.head) c.self.view_is
