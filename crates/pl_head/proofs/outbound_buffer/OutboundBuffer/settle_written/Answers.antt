use Rattle.std.proofs.Common.{rules}
use Rattle.pl_head.specs.OutboundStand.{buffer_view}
use Rattle.pl_head.proofs.Rising.{settles_front-same, settles_front-then, settles_front-rises}
use Rattle.pl_head.proofs.outbound_buffer.OutboundBuffer.settle_written.Goals as goal

pub loop-self-init : goal.loop-self-init
loop-self-init c =
    record {
      holds = search rules;
      size = search rules;
      settles = settles_front-same (buffer_view c.args.self.now);
      numbering = search rules;
      marks = search rules;
    }

pub loop-self-preserved : goal.loop-self-preserved
loop-self-preserved c =
    let before = c.loop-self.invariant in
    record {
      holds = search rules;
      size = search rules;
      settles = settles_front-then (buffer_view c.args.self.now) (buffer_view c.loop-self.self) (buffer_view c.settle_front.new.self) before.settles c.settle_front.ensures.settles;
      numbering = search rules;
      marks = search rules;
    }

pub returns-clause-settles : goal.returns-clause-settles
returns-clause-settles c =
    settles_front-rises (buffer_view c.args.self.now) (buffer_view c.loop-self.self) c.args.self.now.ordered c.loop-self.invariant.settles
