use Rattle.std.proofs.Common.{[], ◌∙◌}
use Rattle.pl_stages.proofs.line_framer.LineFramer.new.Goals as goal

pub returns-clause-stands : goal.returns-clause-stands
returns-clause-stands c = c.new-2.ensures.stands [] (c.from_vec.ensures ∙ c.new.ensures.items)
