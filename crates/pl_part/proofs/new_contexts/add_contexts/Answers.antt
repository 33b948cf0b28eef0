use Rattle.std.proofs.Common.{◌≡◌, ℕ, ◌+◌, [], ◌∷◌, ◌++◌, List, Bool, Some, Option, length, map, replicate, true, slice_get, sym, ap, ap₂, subst, ◌∙◌, arith, append_assoc, length-append}
use Rattle.std.specs.Prelude.{is_some}
use Rattle.std.specs.List.{sum_by}
use Rattle.std.proofs.lemmas.Result.{err_from_is_err_and}
use Rattle.pl_event.proofs.Lists.{All-at, slice_get-behind}
use Rattle.std.proofs.lemmas.List.{map-append}
use Rattle.std.proofs.lemmas.List.Sums.{sum_by_push}
use Rattle.pl_context.specs.ContextViews.{ContextView, IsHop, new_context}
use Rattle.pl_part.specs.Counts.{context_done, slot_done}
use Rattle.pl_part.specs.NewParts.{AreNewSlots, IsNewAt, IsPlannedAt, new_slots}
use Rattle.pl_part.proofs.NewContexts.{new-at, new-push, new_slots-push, replicate-push}
use Rattle.pl_part.proofs.new_contexts.add_contexts.Goals as goal

pub overflow_cast-hop : goal.overflow_cast-hop
overflow_cast-hop g c =
    let before = c.loop-stage.invariant in
    let whole = ap (λ (t : List g.row.S.Denot). length t) before.rest in
    let sum = length-append c.loop-stage.yielded c.loop-stage.stage-iterator.rest.items in
    omega (arith, before.count, whole, sum, c.requires.few, c.len-hop.ensures, c.loop-stage.contexts.ok.0)

pub new-requires-clause-hop : goal.new-requires-clause-hop
new-requires-clause-hop g c =
    let before = c.loop-stage.invariant in
    let stages = c.loop-stage.yielded in
    let stage = c.in-Some.stage in
    let there : slice_get c.args.stages.items (length stages) ≡ Some stage =
    ap (λ (t : List g.row.S.Denot). slice_get t (length stages)) (sym before.rest ∙ ap (λ (t : List g.row.S.Denot). stages ++ t) c.in-Some.ensures.steps.0) ∙ slice_get-behind stages c.next.new.self.rest.items stage in
    let hop : length c.args.contexts.now.items + length stages ≡ c.len-hop.result = omega (arith, before.count, c.len-hop.ensures, c.loop-stage.contexts.ok.0) in
    subst (λ (h : ℕ). IsHop (g.S.Stage.meaning stage).direction h c.args.k) hop (c.requires.hops (length stages) stage there)

pub loop-stage-preserved : goal.loop-stage-preserved
loop-stage-preserved g c =
    let before = c.loop-stage.invariant in
    let stages : List g.row.S.Denot = c.loop-stage.yielded in
    let stage = c.in-Some.stage in
    let slots : List (Option (ContextView g.row.S.Denot)) = c.loop-stage.contexts.items in
    let old : List (Option (ContextView g.row.S.Denot)) = c.args.contexts.now.items in
    let filled = (λ (slot : Option (ContextView g.row.S.Denot)). is_some slot) in
    let context = c.new.result in
    let added = c.in_ok-push.ensures.items in
    let longer = length-append stages (stage ∷ []) in
    let there : slice_get c.args.stages.items (length stages) ≡ Some stage =
    ap (λ (t : List g.row.S.Denot). slice_get t (length stages)) (sym before.rest ∙ ap (λ (t : List g.row.S.Denot). stages ++ t) c.in-Some.ensures.steps.0) ∙ slice_get-behind stages c.next.new.self.rest.items stage in
    let hop : length old + length stages ≡ c.len-hop.result = omega (arith, before.count, c.len-hop.ensures, c.loop-stage.contexts.ok.0) in
    record {
      rest =
          append_assoc stages (stage ∷ []) c.next.new.self.rest.items ∙ ap (λ (t : List g.row.S.Denot). stages ++ t) (sym c.in-Some.ensures.steps.0) ∙ before.rest;
      count =
          let more = ap (λ (l : List (Option (ContextView g.row.S.Denot))). length l) added ∙ length-append slots (Some context ∷ []) in
          omega (arith, more, before.count, longer);
      slots =
          let new = ap (λ (h : ℕ). Some (new_context (g.S.Stage.meaning stage).direction c.args.channel h c.args.k stage)) hop in
          added
          ∙ ap₂ (λ (l : List (Option (ContextView g.row.S.Denot))) (x : Option (ContextView g.row.S.Denot)). l ++ x ∷ []) before.slots (ap (λ (x : ContextView g.row.S.Denot). Some x) c.new.ensures.context ∙ sym new)
          ∙ append_assoc old (new_slots g.S.Stage.meaning c.args.channel c.args.k (length old) stages) (Some (new_context (g.S.Stage.meaning stage).direction c.args.channel (length old + length stages) c.args.k stage) ∷ [])
          ∙ ap (λ (l : List (Option (ContextView g.row.S.Denot))). old ++ l) (sym (new_slots-push g.S.Stage.meaning c.args.channel c.args.k (length old) stages stage));
      filled =
          ap (λ (l : List (Option (ContextView g.row.S.Denot))). map filled l) added
          ∙ map-append filled slots (Some context ∷ [])
          ∙ ap (λ (bs : List Bool). bs ++ true ∷ []) before.filled
          ∙ append_assoc (map filled old) (replicate (length stages) true) (true ∷ [])
          ∙ ap (λ (bs : List Bool). map filled old ++ bs) (sym (replicate-push stages stage true));
      new = λ world turn planned are.
          let at = c.len-hop.result in
          let length-is : at ≡ length slots = omega (arith, c.len-hop.ensures, c.loop-stage.contexts.ok.0) in
          let is : IsNewAt world g.S.Stage.meaning c.args.channel c.args.k turn g.S.Stage.stands_after at context =
          new-at world g.S.Stage.meaning c.args.channel c.args.k turn g.S.Stage.stands_after g.met.S.Stage.lawful at stage context
          (subst (λ (h : ℕ). IsPlannedAt world g.S.Stage.meaning c.args.channel c.args.k turn h stage) hop (planned (length stages) stage there)) c.new.ensures.context c.new.ensures.stands in
          subst (λ (l : List (Option (ContextView g.row.S.Denot))). AreNewSlots world g.S.Stage.meaning c.args.channel c.args.k turn g.S.Stage.stands_after l) (sym added)
          (new-push world g.S.Stage.meaning c.args.channel c.args.k turn g.S.Stage.stands_after slots context (before.new world turn planned are)
          (subst (λ (h : ℕ). IsNewAt world g.S.Stage.meaning c.args.channel c.args.k turn g.S.Stage.stands_after h context) length-is is));
      done =
          let none = ap (λ (x : ContextView g.row.S.Denot). context_done x) c.new.ensures.context in
          let more = ap (λ (l : List (Option (ContextView g.row.S.Denot))). sum_by (λ slot. slot_done slot) l) added ∙ sum_by_push (λ slot. slot_done slot) slots (Some context) in
          omega (arith, none, more, before.done);
    }

pub new-requires-clause-fresh : goal.new-requires-clause-fresh
new-requires-clause-fresh g c =
    let stages = c.loop-stage.yielded in
    All-at (λ (x : g.row.S.Denot). g.S.Stage.stands_after x []) c.args.stages.items (length stages) c.in-Some.stage c.requires.fresh
    (ap (λ (t : List g.row.S.Denot). slice_get t (length stages)) (sym c.loop-stage.invariant.rest ∙ ap (λ (t : List g.row.S.Denot). stages ++ t) c.in-Some.ensures.steps.0) ∙ slice_get-behind stages c.next.new.self.rest.items c.in-Some.stage)

pub returns-in_err-push : goal.returns-in_err-push
returns-in_err-push g c =
    let none = err_from_is_err_and c.from_residual.result c.from_residual.ensures.1 in
    record { count = rw none.1 tt; slots = rw none.1 tt; filled = rw none.1 tt; new = rw none.1 tt; done = rw none.1 tt }

pub returns-clause-new : goal.returns-clause-new
returns-clause-new g c = c.loop-stage.invariant.new

pub returns-clause-done : goal.returns-clause-done
returns-clause-done g c = c.loop-stage.invariant.done
