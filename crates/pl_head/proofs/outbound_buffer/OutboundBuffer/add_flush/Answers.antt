use Rattle.std.proofs.Common.{◌≡◌, ℕ, List, ◌++◌, ◌∷◌, [], false, ap, ◌∙◌, refl}
use Rattle.pl_event.specs.declared.events.Event.{Event}
use Rattle.pl_event.specs.declared.events.Event.TheVariants.{Flush}
use Rattle.pl_head.specs.declared.marks.Marks.{Marks}
use Rattle.pl_head.specs.Writes.{out, bytes_of, flushed_writes, unflushed_writes}
use Rattle.pl_head.specs.Marks.{Change}
use Rattle.pl_head.specs.Buffers.{BufferStands}
use Rattle.pl_head.specs.OutboundStand.{BufferHolds, buffer_view}
use Rattle.pl_head.proofs.Buffering.{flushes, same_parts}
use Rattle.pl_head.proofs.Taking.{stands-flush, output-flush}
use Rattle.pl_head.proofs.BufferSteps.{removes-stands, removes-flags}
use Rattle.pl_head.proofs.outbound_buffer.OutboundBuffer.add_flush.Goals as goal

module _ (c : goal.After-self-2-1) (accepted : List ℕ) (ys : List Event) (sizes : List Change) (s : BufferStands accepted (buffer_view c.args.self.now) ys false sizes) where
  messages : BufferHolds c.settle_written-size.new.self (flushed_writes (ys ++ Flush ∷ [])) (unflushed_writes (ys ++ Flush ∷ [])) (s.left ++ bytes_of (unflushed_writes ys)) false
  messages =
      let h = c.args.self.now in
      let flushed = same_parts refl (c.len-self.ensures ∙ h.entries.ok.0) refl (flushes h.entries.items h.offset h.flushed h.outcomes.items (flushed_writes ys) (unflushed_writes ys) s.left s.messages) in
      stands-flush ys Flush refl refl (c.settle_written-size.ensures.holds (flushed_writes ys ++ unflushed_writes ys) [] (s.left ++ bytes_of (unflushed_writes ys)) false flushed)

  output : accepted ++ (s.left ++ bytes_of (unflushed_writes ys)) ≡ out (ys ++ Flush ∷ [])
  output = output-flush ys Flush accepted s.left refl refl s.output

pub returns-clause-stands : goal.returns-clause-stands
returns-clause-stands c = λ accepted ys sizes s.
    let w = c.settle_written-size in
    removes-stands accepted (buffer_view c.args.self.now) ys false sizes s accepted _ (ys ++ Flush ∷ []) false (messages c accepted ys sizes s) w.ensures.rest (output c accepted ys sizes s) w.result w.ensures.size
    (c.remove.ensures.pending ∙ ap (λ (m : Marks). m.pending) w.ensures.marks) (c.remove.ensures.stands sizes (rw w.ensures.marks s.marks))

pub returns-clause-flags : goal.returns-clause-flags
returns-clause-flags c = λ accepted ys sizes s.
    let w = c.settle_written-size in
    removes-flags accepted (buffer_view c.args.self.now) ys false sizes s accepted (buffer_view w.new.self) (ys ++ Flush ∷ []) false (messages c accepted ys sizes s) w.ensures.rest (output c accepted ys sizes s) w.result w.ensures.size
    (rw (← w.ensures.marks) (c.remove.ensures.flags sizes (rw w.ensures.marks s.marks)))
