use Rattle.std.proofs.Common.{rules, ◌≡◌, ℕ, ◌+◌, ◌<◌, false, true, List, drop, ap, refl, arith}
use Rattle.pl_event.specs.declared.events.Event.{Event}
use Rattle.pl_head.specs.declared.outbound_buffer.Entry.{Entry}
use Rattle.pl_head.specs.Writes.{flushed_writes, unflushed_writes}
use Rattle.pl_head.specs.WaitingMessages.{MessagesStand, entries_size, first_size, entry_numbers}
use Rattle.pl_head.specs.Marks.{Change}
use Rattle.pl_head.specs.Buffers.{BufferStands}
use Rattle.pl_head.specs.OutboundStand.{buffer_view}
use Rattle.pl_head.proofs.Buffering.{closes, same_parts}
use Rattle.pl_head.proofs.WaitingSizes.{entries_size-split, first_size-take}
use Rattle.pl_head.proofs.BufferSteps.{removes-stands, removes-flags}
use Rattle.pl_head.proofs.Rising.{rises-take, rises-drop}
use Rattle.pl_head.proofs.outbound_buffer.OutboundBuffer.close.Goals as goal

pub remove-requires-clause-fits : goal.remove-requires-clause-fits
remove-requires-clause-fits c =
    let h = c.args.self.now in
    omega (arith, c.settle_from-size.ensures.size, entries_size-split h.flushed h.entries.items, h.covered)

pub invariant_of-self-clause-covered : goal.invariant_of-self-clause-covered
invariant_of-self-clause-covered c =
    let h = c.args.self.now in
    rw c.truncate.ensures.items (omega (arith, c.remove.ensures.pending, c.settle_from-size.ensures.size, entries_size-split h.flushed h.entries.items, h.covered))

pub invariant_of-self-clause-ordered : goal.invariant_of-self-clause-ordered
invariant_of-self-clause-ordered c =
    let h = c.args.self.now in
    rw c.truncate.ensures.items (rises-take h.entries.items h.flushed h.ordered)

pub returns-clause-takes_out : goal.returns-clause-takes_out
returns-clause-takes_out c =
    let h = c.args.self.now in
    record {
      same = search rules;
      settles = record {
        settled = record { more = entry_numbers (drop h.flushed h.entries.items); after_is = c.settle_from-size.ensures.settled; rises = rises-drop h.entries.items h.flushed h.ordered };
        told = refl;
      };
      numbering = refl;
      pending = search rules;
      count = search rules;
    }

-- ---- what is left: the front of what waited

module _ (c : goal.After-self-1) where
  parts : entries_size c.args.self.now.entries.items ≡ c.settle_from-size.result + entries_size c.truncate.new.self.items
  parts =
      let h = c.args.self.now in
      omega (arith, ap (λ (t : List Entry). entries_size t) c.truncate.ensures.items, c.settle_from-size.ensures.size, entries_size-split h.flushed h.entries.items)

  module _ (accepted : List ℕ) (ys : List Event) (sizes : List Change) (s : BufferStands accepted (buffer_view c.args.self.now) ys false sizes) where
    messages : MessagesStand c.truncate.new.self.items c.args.self.now.offset c.args.self.now.flushed c.settle_from-size.new.outcomes.items (flushed_writes ys) (unflushed_writes ys) s.left true
    messages =
        let h = c.args.self.now in
        same_parts c.truncate.ensures.items refl c.settle_from-size.ensures.outcomes (closes h.entries.items h.offset h.flushed h.outcomes.items (flushed_writes ys) (unflushed_writes ys) s.left s.messages)

    rest : 0 < c.args.self.now.flushed → c.args.self.now.offset < first_size c.truncate.new.self.items
    rest some = rw (c.truncate.ensures.items, first_size-take c.args.self.now.flushed c.args.self.now.entries.items some) (s.at_rest some)

pub returns-clause-stands : goal.returns-clause-stands
returns-clause-stands c = λ accepted ys sizes s.
    removes-stands accepted (buffer_view c.args.self.now) ys false sizes s accepted _ ys true (messages c accepted ys sizes s) (rest c accepted ys sizes s) s.output c.settle_from-size.result (parts c)
    c.remove.ensures.pending (c.remove.ensures.stands sizes s.marks)

pub returns-clause-flags : goal.returns-clause-flags
returns-clause-flags c = λ accepted ys sizes s.
    let left = record (buffer_view c.args.self.now) { entries = c.truncate.new.self.items; outcomes = c.settle_from-size.new.outcomes.items } in
    removes-flags accepted (buffer_view c.args.self.now) ys false sizes s accepted left ys true (messages c accepted ys sizes s) (rest c accepted ys sizes s) s.output c.settle_from-size.result (parts c)
    (c.remove.ensures.flags sizes s.marks)
