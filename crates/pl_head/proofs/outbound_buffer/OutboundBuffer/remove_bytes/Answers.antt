use Rattle.std.proofs.Common.{◌≡◌, ℕ, ◌≤◌, List, Bool, ◌++◌, length, drop, ap, ◌∙◌}
use Rattle.pl_event.specs.declared.events.Event.{Event}
use Rattle.pl_head.specs.declared.marks.Marks.{Marks}
use Rattle.pl_head.specs.Writes.{out, flushed_writes, unflushed_writes}
use Rattle.pl_head.specs.Marks.{Change}
use Rattle.pl_head.specs.Buffers.{BufferStands}
use Rattle.pl_head.specs.OutboundStand.{BufferHolds, buffer_view}
use Rattle.pl_head.proofs.Buffering.{advances}
use Rattle.pl_head.proofs.BufferSteps.{accepts-more, removes-stands, removes-flags}
use Rattle.pl_head.proofs.outbound_buffer.OutboundBuffer.remove_bytes.Goals as goal

module _ (c : goal.After-self-2-1) (accepted more rest : List ℕ) (ys : List Event) (ended : Bool) (sizes : List Change) (s : BufferStands accepted (buffer_view c.args.self.now) ys ended sizes)
    (count : length more ≡ c.args.count) (whole : accepted ++ (more ++ rest) ≡ out ys) where
  left : (c.args.count ≤ length s.left) × ((accepted ++ more) ++ drop c.args.count s.left ≡ out ys)
  left = accepts-more accepted s.left more rest (out ys) c.args.count s.output count whole

  messages : BufferHolds c.settle_written-size.new.self (flushed_writes ys) (unflushed_writes ys) (drop c.args.count s.left) ended
  messages =
      let h = c.args.self.now in
      c.settle_written-size.ensures.holds (flushed_writes ys) (unflushed_writes ys) (drop c.args.count s.left) ended
      (advances h.entries.items h.offset h.flushed h.outcomes.items (flushed_writes ys) (unflushed_writes ys) s.left ended c.args.count left.0 s.messages)

pub returns-clause-stands : goal.returns-clause-stands
returns-clause-stands c = λ accepted more rest ys ended sizes s count whole.
    let w = c.settle_written-size in
    removes-stands accepted (buffer_view c.args.self.now) ys ended sizes s (accepted ++ more) _ ys ended (messages c accepted more rest ys ended sizes s count whole) w.ensures.rest (left c accepted more rest ys ended sizes s count whole).1 w.result w.ensures.size
    (c.remove.ensures.pending ∙ ap (λ (m : Marks). m.pending) w.ensures.marks) (c.remove.ensures.stands sizes (rw w.ensures.marks s.marks))

pub returns-clause-flags : goal.returns-clause-flags
returns-clause-flags c = λ accepted more rest ys ended sizes s count whole.
    let w = c.settle_written-size in
    removes-flags accepted (buffer_view c.args.self.now) ys ended sizes s (accepted ++ more) (buffer_view w.new.self) ys ended (messages c accepted more rest ys ended sizes s count whole) w.ensures.rest (left c accepted more rest ys ended sizes s count whole).1 w.result w.ensures.size
    (rw (← w.ensures.marks) (c.remove.ensures.flags sizes (rw w.ensures.marks s.marks)))
