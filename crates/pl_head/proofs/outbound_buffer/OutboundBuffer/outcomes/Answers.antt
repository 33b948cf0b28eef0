use Rattle.std.proofs.Common.{◌∙◌}
use Rattle.pl_head.specs.OutboundStand.{buffer_view}
use Rattle.pl_head.proofs.BufferSteps.{outcomes_are}
use Rattle.pl_head.proofs.outbound_buffer.OutboundBuffer.outcomes.Goals as goal

pub returns-clause-stands : goal.returns-clause-stands
returns-clause-stands c = λ accepted ys ended sizes s.
    c.as_slice.ensures.value ∙ outcomes_are accepted (buffer_view c.args.self.now) ys ended sizes s
