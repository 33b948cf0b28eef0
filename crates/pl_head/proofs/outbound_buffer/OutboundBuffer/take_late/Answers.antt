use Rattle.std.proofs.Common.{◌∷◌, ◌++◌, [], Some, Option, ◌∙◌, ap, sym, not}
use Rattle.pl_event.specs.declared.outcomes.Outcome.{Outcome}
use Rattle.pl_head.specs.Writes.{write_by}
use Rattle.pl_head.specs.Buffers.{OutboundBufferView}
use Rattle.pl_head.specs.OutboundStand.{buffer_view}
use Rattle.pl_head.proofs.Failing.{placing, adding, failed-nothing, failed-numbered, failed-unnumbered, none_written, one_written}
use Rattle.pl_head.proofs.outbound_buffer.OutboundBuffer.take_late.Goals as goal

pub returns-in_default-clause-stands : goal.returns-in_default-clause-stands
returns-in_default-clause-stands c = λ accepted ys zs ended sizes s.
    failed-nothing c.args.outcome accepted ys zs ended sizes c.args.event (buffer_view c.args.self.now) (none_written c.args.outcome (write_by c.args.event) c.in_default.ensures) s

pub returns-then-not-make_place-clause-stands : goal.returns-then-not-make_place-clause-stands
returns-then-not-make_place-clause-stands c = λ accepted ys zs ended sizes s.
    let b = buffer_view c.args.self.now in
    let b' = buffer_view c.make_place.new.self in
    let w = one_written c.args.outcome c.in-Some.outcome (write_by c.args.event) c.in-Some.ensures in
    let placed = c.make_place.ensures.same in
    failed-unnumbered c.args.outcome accepted ys zs ended sizes c.args.event b b' w.0 w.1 (placing b placed) s
    (ap (λ (v : OutboundBufferView). v.is_full) placed ∙ ap not c.if-not-make_place.true) (ap (λ (v : OutboundBufferView). v.outcomes) placed)

pub returns-clause-stands : goal.returns-clause-stands
returns-clause-stands c = λ accepted ys zs ended sizes s.
    let b = buffer_view c.args.self.now in
    let b' = buffer_view c.add_settled.new.self in
    let w = one_written c.args.outcome c.in-Some.outcome (write_by c.args.event) c.in-Some.ensures in
    let placed = c.make_place.ensures.same in
    let added = c.add_settled.ensures.same in
    failed-numbered c.args.outcome accepted ys zs ended sizes c.args.event b b' w.0 w.1 (adding b (buffer_view c.make_place.new.self) (placing b placed) added) s
    (c.make_place.ensures.was_open c.if-not-make_place.false)
    (ap (λ (v : OutboundBufferView). v.outcomes) added ∙ ap (λ (v : OutboundBufferView). v.outcomes ++ Some c.in-Some.outcome ∷ []) placed ∙ ap (λ (o : Option Outcome). b.outcomes ++ o ∷ []) (sym w.2))
