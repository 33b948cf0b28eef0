use Rattle.std.proofs.Common.{rules, arith, ◌≡◌, ◌∙◌, sym, ap, subst}
use Rattle.pl_words.specs.declared.admission_steps.AdmissionNotes.{AdmissionNotes}
use Rattle.pl_words.specs.Names.{Name}
use Rattle.pl_words.specs.Admissions.{AdmissionView, SendSeatView}
use Rattle.pl_words.proofs.AdmissionMoves.{gathers}
use Rattle.pl_words.proofs.Gathering.{Gathers, gathers_one, counts_all}
use Rattle.pl_words.proofs.admission.Admission.retire.Goals as goal

pub join_seat-requires : goal.join_seat-requires
join_seat-requires c =
    let g = rw c.in-Some.ensures.steps.0 at c.loop-sender.invariant in
    let name : c.self.inside.table.shared.table_id ≡ c.args.self.name = ap (λ (z : AdmissionView). z.name) c.self.view_is in
    let mine : c.sender.inside.seat.table_id ≡ c.in-Some.sender.name = ap (λ (z : SendSeatView). z.name) c.sender.view_is in (
      g.same ∙ sym name,
      mine ∙ (g.each 0 c.in-Some.sender (omega arith) ∙ sym name),
      search rules,
      search rules,
      gathers _ _ _ _ _ g.owns,
    )

pub loop-sender-preserved : goal.loop-sender-preserved
loop-sender-preserved c =
    let g = rw c.in-Some.ensures.steps.0 at c.loop-sender.invariant in
    subst (λ (z : Name × AdmissionNotes). Gathers c.args.self c.args.owner c.args.seats.items z.0 z.1 c.next.new.self.rest.items) (λ i. (sym c.join_seat.ensures.0 i, sym (ap (λ m. m.0) c.join_seat.ensures.2) i))
    (gathers_one c.in-Some.sender c.sender.inside.seat.me.0 g c.sender.invariant.1 c.sender.invariant.2 (ap (λ (z : SendSeatView). z.kept) c.sender.view_is) (ap (λ (z : SendSeatView). z.late) c.sender.view_is))

pub free-requires : goal.free-requires
free-requires c = λ k h. absurd (omega (arith, c.close_with-closed.ensures.counts.1, c.self.invariant.1))

pub returns-clause-kept : goal.returns-clause-kept
returns-clause-kept c =
    let all = counts_all _ _ _ _ _ c.loop-sender.invariant (omega (arith, c.in-None.ensures.steps.0, c.loop-sender.sender-iterator.rest.ok)) (ap (λ (z : AdmissionView). z.senders) c.self.view_is) c.close_with-closed.ensures.values.2 c.word-word.ensures in
    all.0

pub returns-clause-run : goal.returns-clause-run
returns-clause-run c =
    let all = counts_all _ _ _ _ _ c.loop-sender.invariant (omega (arith, c.in-None.ensures.steps.0, c.loop-sender.sender-iterator.rest.ok)) (ap (λ (z : AdmissionView). z.senders) c.self.view_is) c.close_with-closed.ensures.values.2 c.word-word.ensures in
    all.1
