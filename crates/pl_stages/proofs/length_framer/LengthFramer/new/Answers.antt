use Rattle.std.proofs.Common.{[]}
use Rattle.pl_stages.proofs.FrameSteps.{keeps_nothing}
use Rattle.pl_stages.proofs.length_framer.LengthFramer.new.Goals as goal

pub returns-clause-stands : goal.returns-clause-stands
returns-clause-stands c = c.new-2.ensures.stands [] (rw c.new.ensures.items (keeps_nothing c.args.width c.args.max))
