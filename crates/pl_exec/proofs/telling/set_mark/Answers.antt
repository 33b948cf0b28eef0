use Rattle.std.proofs.Common.{◌≡◌, ℕ, not, Bool, true, false, Option, Some, refl, ap, sym, ◌∙◌, arith}
use Rattle.std.proofs.lemmas.Option.{same_Some}
use Rattle.pl_head.specs.HeadStand.{HeadView}
use Rattle.pl_exec.specs.SessionWords.{with_mark}
use Rattle.pl_exec.proofs.telling.set_mark.Goals as goal

twice : (b : Bool) → not (not b) ≡ b
twice true = refl
twice false = refl

-- what was found is what the head has
marked : {T : Type 0} (head : Option (HeadView T)) (pending : ℕ) (writable : Bool) → (h : HeadView T) × (head ≡ Some h) × (pending ≡ h.buffer.pending) × (writable ≡ not h.buffer.is_unwritable)
    → (h : HeadView T) → head ≡ Some h → (pending ≡ h.buffer.pending) × (not writable ≡ h.buffer.is_unwritable)
marked {T = T} head pending writable found h at =
    let same : found.0 ≡ h = same_Some found.0 h (sym found.1 ∙ at) in
    (found.2 ∙ ap (λ (x : HeadView T). x.buffer.pending) same, ap not found.3 ∙ twice found.0.buffer.is_unwritable ∙ ap (λ (x : HeadView T). x.buffer.is_unwritable) same)

pub set_mark-requires-clause-marked : goal.set_mark-requires-clause-marked
set_mark-requires-clause-marked g c =
    let found = c.in-Some.ensures.some in
    let marks = c.requires.marks found.0 found.1 in (
      (λ over. ap not (c.in-Some.ensures.above found.0 found.1 (omega (arith, marks.0, marks.1, c.requires.ordered)) (omega (arith, over, marks.1)))),
      (λ under. ap not (c.in-Some.ensures.below found.0 found.1 (omega (arith, marks.0, marks.1, c.requires.ordered)) (omega (arith, under, marks.0)))),
    )

pub returns-in-Some-clause-mark : goal.returns-in-Some-clause-mark
returns-in-Some-clause-mark g c = λ h at.
    let is = marked c.args.part.now.head c.in-Some.pending c.in-Some.is_writable c.in-Some.ensures.some h at in
    c.set_mark.ensures.mark ∙ (λ i. with_mark c.args.seats.now.mark (is.0 i) (is.1 i))

pub returns-in-Some-clause-says : goal.returns-in-Some-clause-says
returns-in-Some-clause-says g c = λ h at few.
    let is = marked c.args.part.now.head c.in-Some.pending c.in-Some.is_writable c.in-Some.ensures.some h at in
    let later = c.set_mark.ensures.later in
    let set = c.set_mark.ensures.set (omega (arith, few, later)) in
    (set.0 ∙ is.0, set.1 ∙ is.1)
