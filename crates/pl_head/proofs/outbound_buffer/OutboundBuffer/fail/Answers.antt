use Rattle.std.proofs.Common.{◌≡◌, [], List, Option, length, map, ap, sym, ◌∙◌, refl, arith, append-nil}
use Rattle.pl_event.specs.declared.outcomes.Outcome.{Outcome}
use Rattle.pl_head.specs.Failures.{settled_by}
use Rattle.pl_head.specs.Writes.{flushed_writes, unflushed_writes, outcomes, waiting_bytes}
use Rattle.pl_head.specs.OutboundStand.{buffer_view}
use Rattle.pl_head.proofs.Buffering.{fails}
use Rattle.pl_head.proofs.BufferSteps.{waits, outcomes_are, same_marks, same_flags, removed_size}
use Rattle.pl_head.proofs.outbound_buffer.OutboundBuffer.fail.Goals as goal

pub returns-clause-stands : goal.returns-clause-stands
returns-clause-stands c = λ accepted ys ended sizes s.
    let h = c.args.self.now in
    let size : c.settle_from-size.result ≡ waiting_bytes ys (length accepted) ended = c.settle_from-size.ensures.size ∙ sym s.size ∙ waits accepted (buffer_view h) ys ended sizes s in
    record {
      left = s.left;
      output = s.output;
      entries = c.clear.ensures.items;
      pending = omega (arith, c.remove.ensures.pending, c.settle_from-size.ensures.size, s.size);
      late = [];
      unnumbered = [];
      split = refl;
      all = λ goes. refl;
      outcomes_are =
          c.settle_from-size.ensures.outcomes
          ∙ fails c.args.outcome h.entries.items h.offset h.flushed h.outcomes.items (flushed_writes ys) (unflushed_writes ys) s.left ended s.messages
          ∙ ap (λ (os : List (Option Outcome)). map (settled_by c.args.outcome) os) (outcomes_are accepted (buffer_view h) ys ended sizes s)
          ∙ sym (append-nil (map (settled_by c.args.outcome) (outcomes ys (length accepted) ended)));
      marks = same_marks sizes (removed_size size) (c.remove.ensures.stands sizes s.marks);
    }

pub returns-clause-flags : goal.returns-clause-flags
returns-clause-flags c = λ accepted ys ended sizes s.
    let size : c.settle_from-size.result ≡ waiting_bytes ys (length accepted) ended = c.settle_from-size.ensures.size ∙ sym s.size ∙ waits accepted (buffer_view c.args.self.now) ys ended sizes s in
    same_flags sizes (removed_size size) (c.remove.ensures.flags sizes s.marks)
