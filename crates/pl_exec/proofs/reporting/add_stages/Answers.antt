use Rattle.std.proofs.Common.{◌≡◌, ◌∷◌, [], List, Option, length, get_or, set, refl, ap, sym, ◌∙◌, arith, length-append}
use Rattle.std.proofs.lemmas.List.{nil_from_length}
use Rattle.pl_part.specs.declared.kept.KeptStage.{KeptStage}
use Rattle.pl_exec.specs.RunStages.{filled_up}
use Rattle.pl_exec.proofs.FilledSlots.{filled_up-count, filled_up-next, filled_up-none, filled_up-past}
use Rattle.pl_exec.proofs.ListSteps.{all-done, one-more}
use Rattle.pl_exec.proofs.reporting.add_stages.Goals as goal

pub loop-other-init : goal.loop-other-init
loop-other-init g c = record {
  rest = c.into_iter-other-iterator.ensures.into_iter_gives.0;
  at = refl;
  stages = sym (filled_up-none c.args.stages.now.items);
}

pub index_mut-requires : goal.index_mut-requires
index_mut-requires g c =
    let inv = c.loop-other.invariant in
    let size = ap (λ (l : List (Option (KeptStage g.row.S.Denot))). length l) inv.stages ∙ filled_up-count c.args.stages.now.items c.loop-other.yielded in
    omega (arith, size)

pub loop-other-preserved : goal.loop-other-preserved
loop-other-preserved g c =
    let inv = c.loop-other.invariant in
    let done = c.loop-other.yielded in
    let other = c.in-Some.other in
    let own = c.args.stages.now.items in
    let hop : c.loop-other.hop ≡ length done = inv.at in
    let size = ap (λ (l : List (Option (KeptStage g.row.S.Denot))). length l) inv.stages ∙ filled_up-count own done in
    record {
      rest = one-more c.args.others.items done c.loop-other.other-iterator.rest.items c.next.new.self.rest.items other c.in-Some.ensures.steps.0 inv.rest;
      at = omega (arith, hop, length-append done (other ∷ []));
      stages =
          (λ i. set (inv.stages i) (hop i) (c.add_stage.ensures i))
          ∙ filled_up-next own done other c.index_mut.result.now (omega (arith, size)) (c.index_mut.ensures.value ∙ (λ i. get_or (inv.stages i) (hop i) c.index_mut.result.now));
    }

pub returns-then-hop-len : goal.returns-then-hop-len
returns-then-hop-len g c =
    let inv = c.loop-other.invariant in
    let left = c.loop-other.other-iterator.rest in
    let own = c.args.stages.now.items in
    let size = ap (λ (l : List (Option (KeptStage g.row.S.Denot))). length l) inv.stages ∙ filled_up-count own c.loop-other.yielded in
    inv.stages ∙ filled_up-past own c.loop-other.yielded left.items (omega (arith, size, inv.at)) ∙ ap (λ (l : List (Option (KeptStage g.row.S.Denot))). filled_up own l) inv.rest

pub returns : goal.returns
returns g c =
    let inv = c.loop-other.invariant in
    let left = c.loop-other.other-iterator.rest in
    inv.stages
    ∙ ap (λ (l : List (Option (KeptStage g.row.S.Denot))). filled_up c.args.stages.now.items l)
    (all-done c.args.others.items c.loop-other.yielded left.items (nil_from_length left.items (omega (arith, c.in-None.ensures.steps.0, left.ok))) inv.rest)
