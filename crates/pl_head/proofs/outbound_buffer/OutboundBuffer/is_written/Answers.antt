use Rattle.pl_head.specs.Writes.{flushed_writes, unflushed_writes, out}
use Rattle.pl_head.proofs.Buffering.{nothing_left, some_left}
use Rattle.pl_head.proofs.HeadSteps.{flushed_waits}
use Rattle.pl_head.proofs.outbound_buffer.OutboundBuffer.is_written.Goals as goal

pub returns-clause-stands : goal.returns-clause-stands
returns-clause-stands c = λ accepted ys ended sizes s.
    let b = c.args.self.now in
    flushed_waits b.flushed accepted s.left (out ys)
    (nothing_left b.entries.items b.offset b.flushed b.outcomes.items (flushed_writes ys) (unflushed_writes ys) s.left ended s.messages)
    (λ some. some_left b.entries.items b.offset b.flushed b.outcomes.items (flushed_writes ys) (unflushed_writes ys) s.left ended s.messages some (s.at_rest some))
    s.output
