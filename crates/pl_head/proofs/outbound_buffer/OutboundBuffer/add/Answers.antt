use Rattle.std.proofs.Common.{rules, ◌-◌, [], ◌∷◌, List, ℕ, Bool, Some, None, refl, ap, sym, ◌∙◌, inl, inr, append-nil}
use Rattle.std.specs.VecDeque.{deque_len, deque_capacity}
use Rattle.pl_event.specs.declared.events.Event.{Event}
use Rattle.pl_head.specs.declared.outbound_buffer.Entry.{Entry}
use Rattle.pl_head.specs.Writes.{write_by, is_flush, flushed_writes, unflushed_writes}
use Rattle.pl_head.specs.Buffers.{OutboundBufferView}
use Rattle.pl_head.specs.OutboundStand.{buffer_view}
use Rattle.pl_head.proofs.Buffering.{adds, same_parts}
use Rattle.pl_head.proofs.Taking.{no_write, no_bytes, no_flush}
use Rattle.pl_head.proofs.BufferSteps.{stands-same, stands-on, sends_nothing}
use Rattle.pl_head.proofs.Failing.{makes_one}
use Rattle.pl_head.proofs.outbound_buffer.OutboundBuffer.add.Goals as goal

pub returns-then-not-make_place-clause-lacks : goal.returns-then-not-make_place-clause-lacks
returns-then-not-make_place-clause-lacks c =
    let one = makes_one c.in-Write.message in
    record {
      write = one.0;
      makes = ap (λ (e : Event). write_by e) c.in-Write.is ∙ one.1;
      full = inl (c.make_place.ensures.full c.if-not-make_place.true c.requires.numbering);
    }

pub returns-then-is_err-clause-lacks : goal.returns-then-is_err-clause-lacks
returns-then-is_err-clause-lacks c =
    record {
      write = Some c.in-Bytes.bytes;
      makes = rw (c.in-Write.is, c.in-Bytes.is) refl;
      full = inr (search rules, search rules);
    }

pub returns-in-Bytes-clause-adds : goal.returns-in-Bytes-clause-adds
returns-in-Bytes-clause-adds c =
    let m = c.make_place in
    let v = buffer_view m.new.self in
    let room : ℕ = deque_capacity c.reserve.new.self - deque_len c.reserve.new.self in
    let same = ap (λ (es : List Entry). record v { entries = es; entries_room = room }) c.reserve.ensures.items ∙ ap (λ (u : OutboundBufferView). record u { entries_room = room }) m.ensures.same in
    record {
      stands = λ accepted ys sizes s. rw (c.in-Write.is, c.in-Bytes.is) (c.add_message.ensures.stands accepted ys sizes (stands-same (buffer_view c.args.self.now) same s));
      flags = λ accepted ys sizes s. rw (c.in-Write.is, c.in-Bytes.is, ← m.ensures.marks) (c.add_message.ensures.flags accepted ys sizes (stands-same (buffer_view c.args.self.now) same s));
      numbering = search rules;
    }

pub returns-in-Write-clause-adds : goal.returns-in-Write-clause-adds
returns-in-Write-clause-adds c =
    let m = c.make_place in
    let v = buffer_view m.new.self in
    let off = ap (λ (e : Event). is_flush e) c.in-Write.is in
    let makes = ap (λ (e : Event). write_by e) c.in-Write.is ∙ no_bytes c.in-Write.message c.in_default-message.not-Bytes in
    record {
      stands = λ accepted ys sizes s.
          stands-on c.args.event off (None ∷ []) makes refl _ _ v c.add_settled.ensures.same
          (λ left held. same_parts (sym (append-nil v.entries)) refl refl (adds v.entries v.offset v.flushed v.outcomes (flushed_writes ys) (unflushed_writes ys) left None held))
          (stands-same (buffer_view c.args.self.now) m.ensures.same s);
      flags = λ accepted ys sizes s. rw (c.add_settled.ensures.marks, m.ensures.marks) (sends_nothing c.args.event off (None ∷ []) makes refl _ _ sizes);
      numbering = search rules;
    }

pub returns-in-Flush-clause-adds : goal.returns-in-Flush-clause-adds
returns-in-Flush-clause-adds c = record {
  stands = λ accepted ys sizes s. rw c.in-Flush.is (c.add_flush.ensures.stands accepted ys sizes s);
  flags = λ accepted ys sizes s. rw c.in-Flush.is (c.add_flush.ensures.flags accepted ys sizes s);
  numbering = search rules;
}

pub returns-clause-adds : goal.returns-clause-adds
returns-clause-adds c =
    let b = buffer_view c.args.self.now in
    let off = no_flush c.args.event c.in_default.not-Flush in
    let makes = no_write c.args.event c.in_default.not-Write in
    record {
      stands = λ accepted ys sizes s. stands-on c.args.event off [] makes refl _ _ b refl (λ left held. rw (append-nil (unflushed_writes ys)) held) s;
      flags = λ accepted ys sizes s. sends_nothing c.args.event off [] makes refl _ _ sizes;
      numbering = search rules;
    }

pub returns-then-not-make_place-clause-numbered : goal.returns-then-not-make_place-clause-numbered
returns-then-not-make_place-clause-numbered c = λ e. cc e

pub returns-then-is_err-clause-refused : goal.returns-then-is_err-clause-refused
returns-then-is_err-clause-refused c =
    let m = c.make_place in
    let b = buffer_view c.args.self.now in
    let v = buffer_view m.new.self in
    let room : ℕ = deque_capacity c.reserve.new.self - deque_len c.reserve.new.self in
    let same = ap (λ (es : List Entry). record v { entries = es; entries_room = room }) c.reserve.ensures.items ∙ ap (λ (u : OutboundBufferView). record u { entries_room = room }) m.ensures.same in
    let full = ap (λ (u : OutboundBufferView). u.is_full) m.ensures.same in
    same ∙ ap (λ (f : Bool). record b { entries_room = room; outcomes_room = v.outcomes_room; is_full = f }) (sym full)

pub returns-then-is_err-clause-refused_marks : goal.returns-then-is_err-clause-refused_marks
returns-then-is_err-clause-refused_marks c = c.make_place.ensures.marks

pub returns-in-Flush-clause-lacks : goal.returns-in-Flush-clause-lacks
returns-in-Flush-clause-lacks c = tt

pub returns-in-Flush-clause-numbered : goal.returns-in-Flush-clause-numbered
returns-in-Flush-clause-numbered c = λ e. cc e

pub returns-clause-lacks : goal.returns-clause-lacks
returns-clause-lacks c = tt

pub returns-clause-numbered : goal.returns-clause-numbered
returns-clause-numbered c = λ e. cc e
