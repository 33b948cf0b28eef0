use Rattle.pl_head.specs.OutboundStand.{buffer_view}
use Rattle.pl_head.proofs.BufferSteps.{waits}
use Rattle.pl_head.proofs.outbound_buffer.OutboundBuffer.pending.Goals as goal

pub returns-clause-waiting : goal.returns-clause-waiting
returns-clause-waiting c = λ accepted ys ended sizes s. waits accepted (buffer_view c.args.self.now) ys ended sizes s
