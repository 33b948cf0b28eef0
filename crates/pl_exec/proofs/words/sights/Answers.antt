use Rattle.std.proofs.Common.{◌≡◌, length, map, inl, inr, refl, arith}
use Rattle.std.proofs.lemmas.List.{nil_from_length}
use Rattle.pl_event.proofs.Lists.{seen-more}
use Rattle.pl_exec.specs.SessionWords.{SightView}
use Rattle.pl_exec.proofs.ListSteps.{all-done, both-behind}
use Rattle.pl_exec.proofs.words.sights.Goals as goal

pub loop-mark-preserved : goal.loop-mark-preserved
loop-mark-preserved c =
    let inv = c.loop-mark.invariant in
    let steps = c.in-Some.ensures.steps in
    let left = c.loop-mark.mark-iterator in
    let next = c.next.new.self in
    let after = c.push.new.self.items in
    let new : SightView = record { mark = c.in-Some.mark; promises = c.in-Some.promises } in
    record {
      marks = seen-more (λ (w : SightView). w.mark) c.args.marks.items left.a.rest.items next.a.rest.items c.loop-mark.sights.items after c.in-Some.mark new inv.marks steps.0.0 c.in_ok-push.ensures.items refl;
      promises = seen-more (λ (w : SightView). w.promises) c.args.promises.items left.b.rest.items next.b.rest.items c.loop-mark.sights.items after c.in-Some.promises new inv.promises steps.1.0 c.in_ok-push.ensures.items refl;
      left = both-behind left.a.rest.items next.a.rest.items left.b.rest.items next.b.rest.items c.in-Some.mark c.in-Some.promises inv.left steps.0.0 steps.1.0;
    }

pub returns-clause-marks : goal.returns-clause-marks
returns-clause-marks c =
    let inv = c.loop-mark.invariant in
    let left = c.loop-mark.mark-iterator in
    let none : length left.a.rest.items ≡ 0 = elim c.in-None.ensures.steps [ inl h ↦ omega (arith, h.1.0, left.a.rest.ok) | inr h ↦ omega (arith, h.1.0, left.b.rest.ok, inv.left) ] in
    all-done c.args.marks.items (map (λ (w : SightView). w.mark) c.loop-mark.sights.items) left.a.rest.items (nil_from_length left.a.rest.items none) inv.marks

pub returns-clause-promises : goal.returns-clause-promises
returns-clause-promises c =
    let inv = c.loop-mark.invariant in
    let left = c.loop-mark.mark-iterator in
    let none : length left.b.rest.items ≡ 0 = elim c.in-None.ensures.steps [ inl h ↦ omega (arith, h.1.0, left.a.rest.ok, inv.left) | inr h ↦ omega (arith, h.1.0, left.b.rest.ok) ] in
    all-done c.args.promises.items (map (λ (w : SightView). w.promises) c.loop-mark.sights.items) left.b.rest.items (nil_from_length left.b.rest.items none) inv.promises
