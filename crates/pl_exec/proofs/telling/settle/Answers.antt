use Rattle.std.proofs.Common.{◌≡◌, length, List, [], Option, Some, None, ap, arith, ℕ, refl, sym, subst, ◌∙◌}
use Rattle.std.specs.Prelude.{IfNone}
use Rattle.std.proofs.lemmas.Option.{none-some}
use Rattle.pl_part.specs.Told.{part_untold}
use Rattle.pl_part.proofs.ToldLemmas.{none-told, told-more}
use Rattle.pl_exec.specs.SessionWords.{TriesEach}
use Rattle.pl_exec.specs.Telling.{part_outcomes}
use Rattle.pl_exec.proofs.ListSteps.{all-done}
use Rattle.pl_exec.proofs.SettledWrites.{next-settled}
use Rattle.pl_exec.proofs.telling.settle.Goals as goal

pub loop-n-init : goal.loop-n-init
loop-n-init g c = record { own = c.requires; mark = refl; told = none-told c.args.part.now; settled = ([], refl, refl) }

pub loop-n-preserved : goal.loop-n-preserved
loop-n-preserved g c = record {
  own = c.settle.ensures.own;
  mark = c.settle.ensures.mark ∙ c.loop-n.invariant.mark;
  told = told-more c.args.part.now c.loop-n.part c.next_settled.new.self c.loop-n.invariant.told c.next_settled.ensures.told;
  settled =
      next-settled c.args.part.now c.loop-n.part c.next_settled.new.self c.in-Some.n c.in-Some.outcome c.args.seats.now.settle c.loop-n.seats.settle c.settle.new.seats.settle c.loop-n.invariant.told c.in-Some.ensures.some
      (record { first = c.settle.ensures.first; tried = c.settle.ensures.tried; void = c.settle.ensures.void })
      c.loop-n.invariant.settled;
}

pub loop-n-smaller : goal.loop-n-smaller
loop-n-smaller g c = let e = ap (λ (l : List ℕ). length l) c.in-Some.ensures.some.next in omega (arith, e)

where-none : {A P : Type 0} (o : Option A) → o ≡ None → IfNone o P → P
where-none None is then = then
where-none (Some a) is then = absurd (none-some a (sym is))

-- none is left
pub returns-clause-settled : goal.returns-clause-settled
returns-clause-settled g c =
    let settled = c.loop-n.invariant.settled in
    let p = c.args.part.now in
    subst (λ (ns : List ℕ). TriesEach (part_outcomes p) ns c.args.seats.now.settle c.loop-n.seats.settle) (all-done (part_untold p) settled.0 (part_untold c.loop-n.part) (where-none c.next_settled.result c.in_default.is c.next_settled.ensures.none).0 settled.1) settled.2
