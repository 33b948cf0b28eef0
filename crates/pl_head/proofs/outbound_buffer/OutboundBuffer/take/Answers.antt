use Rattle.std.proofs.Common.{rules, [], List, ℕ, Some, false, Err, refl, ap, subst, ◌∙◌}
use Rattle.pl_event.specs.declared.outcomes.Outcome.TheVariants.{Closed}
use Rattle.pl_head.specs.declared.outbound_buffer.Refusal.{Refusal}
use Rattle.pl_head.specs.Settling.{GoesOn}
use Rattle.pl_head.specs.Buffers.{OutboundBufferView}
use Rattle.pl_head.specs.OutboundStand.{buffer_view}
use Rattle.pl_head.proofs.BufferSteps.{stands-same}
use Rattle.pl_head.proofs.Failing.{adding, failed-numbered, failed-unnumbered}
use Rattle.pl_head.proofs.Rising.{goes_on-adds}
use Rattle.pl_head.proofs.outbound_buffer.OutboundBuffer.take.Goals as goal

pub returns-in-Numbered-clause-err : goal.returns-in-Numbered-clause-err
returns-in-Numbered-clause-err c = λ accepted ys sizes s.
    let n = buffer_view c.fail.new.self in
    let numbered = c.in-Err.ensures.numbered (ap (λ (r : Refusal). Err r) c.in-Numbered.is) in
    let failed = c.fail.ensures.stands accepted ys false sizes (stands-same (buffer_view c.args.self.now) c.in-Err.ensures.refused s) in
    let goes = c.fail.ensures.takes_out.numbering ∙ numbered.1 in
    failed-numbered Closed accepted ys [] false _ c.args.event n (buffer_view c.add_settled.new.self) (Some numbered.2) numbered.3 (adding n n refl c.add_settled.ensures.same) failed goes
    (ap (λ (v : OutboundBufferView). v.outcomes) c.add_settled.ensures.same)

pub returns-in-Numbered-clause-takes_in : goal.returns-in-Numbered-clause-takes_in
returns-in-Numbered-clause-takes_in c =
    let failed = c.fail.new.self in
    let kept = c.in-Err.ensures.refused in
    let settles = c.fail.ensures.takes_out.settles in
    record {
      stops = search rules;
      same = search rules;
      settles = record {
        settled =
            goes_on-adds c.args.self.now.settled.items failed.settled.items failed.outcomes.items failed.account
            (subst (λ (ns : List ℕ). GoesOn ns failed.settled.items) (ap (λ (v : OutboundBufferView). v.settled) kept) settles.settled) c.add_settled.ensures.settled;
        told = ap (λ (v : OutboundBufferView). v.told) c.add_settled.ensures.same ∙ settles.told ∙ ap (λ (v : OutboundBufferView). v.told) kept;
      };
      pending = search rules;
      count = search rules;
    }

pub returns-in-Unnumbered-clause-err : goal.returns-in-Unnumbered-clause-err
returns-in-Unnumbered-clause-err c = λ accepted ys sizes s.
    let n = buffer_view c.fail.new.self in
    let lacks = c.in-Err.ensures.lacks in
    let failed = c.fail.ensures.stands accepted ys false sizes (stands-same (buffer_view c.args.self.now) c.in-Err.ensures.refused s) in
    let full = c.fail.ensures.takes_out.numbering ∙ c.in-Err.ensures.unnumbered (ap (λ (r : Refusal). Err r) c.in-Unnumbered.is) in
    failed-unnumbered Closed accepted ys [] false _ c.args.event n n lacks.write lacks.makes refl failed full refl

pub returns-in-Numbered-clause-err_flags : goal.returns-in-Numbered-clause-err_flags
returns-in-Numbered-clause-err_flags c = λ accepted ys sizes s.
    let refused = c.in-Err.ensures in
    rw (c.add_settled.ensures.marks, ← refused.refused_marks, ← refused.refused_outputs)
    (c.fail.ensures.flags accepted ys false sizes (stands-same (buffer_view c.args.self.now) refused.refused s))
