use Rattle.std.proofs.Common.{◌∙◌}
use Rattle.pl_head.specs.OutboundStand.{buffer_view}
use Rattle.pl_head.proofs.BufferSteps.{outcomes_are}
use Rattle.pl_head.proofs.outbound_buffer.OutboundBuffer.into_outcomes.Goals as goal

pub returns-clause-stands : goal.returns-clause-stands
returns-clause-stands c = λ accepted ys ended sizes s.
    c.from_vec.ensures ∙ outcomes_are accepted (buffer_view c.args.self) ys ended sizes s
