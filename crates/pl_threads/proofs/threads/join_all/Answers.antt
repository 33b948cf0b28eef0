use Rattle.std.proofs.Common.{◌≡◌, ◌++◌, ◌∷◌, [], List, map, append-nil, append_assoc, ap, sym, subst, ◌∙◌, arith}
use Rattle.std.proofs.lemmas.List.{nil_from_length}
use Rattle.std.proofs.lemmas.Grind.{common_steps}
use Rattle.std.specs.List.{AllZip}
use Rattle.std.specs.declared.thread.PromisedHandle.{PromisedHandle}
use Rattle.std.specs.declared.option.Option.TheVariants.{the_data}
use Rattle.std.proofs.lemmas.List.Elements.{All-cons, All-same}
use Rattle.pl_threads.specs.Running.{FinishedView, EndsAs}
use Rattle.pl_threads.specs.Turning.{Threaded}
use Rattle.pl_threads.proofs.threads.join_all.Goals as goal

pub loop-handle-preserved : goal.loop-handle-preserved
loop-handle-preserved g c =
    let Handle : Type 0 = PromisedHandle (the_data (FinishedView g.row.N.Denot)) (Threaded g.row.G.Denot) in
    let Entered : Handle → Type 0 = λ h. g.G.Gate.was_entered h.promise.gate h.promise.number h.promise.turn in
    let Ends : List (Threaded g.row.G.Denot) → List (FinishedView g.row.N.Denot) → Type 0 = λ ps fs. AllZip (λ p f. EndsAs g.N.OwnNodes.view_of p.number p.owner f) ps fs in
    let finished = c.in-Some-join.finished in
    let next = c.in-Some.ensures.steps.0 in
    let pushed : c.push.new.self.items ≡ c.loop-handle.all.items ++ finished ∷ [] = grind (arith, common_steps) in
    record {
      ended = λ more rest.
          subst (λ (fs : List (FinishedView g.row.N.Denot)). Ends (map (λ h. h.promise) c.args.handles.items) fs)
          (sym (ap (λ (fs : List (FinishedView g.row.N.Denot)). fs ++ more) pushed ∙ append_assoc c.loop-handle.all.items (finished ∷ []) more))
          (c.loop-handle.invariant.ended (finished ∷ more)
          (subst (λ (hs : List Handle). Ends (map (λ h. h.promise) hs) (finished ∷ more)) (sym next) (c.in-Some-join.ensures.0, rest)));
      entered = λ rest. c.loop-handle.invariant.entered (All-same Entered _ _ next (All-cons Entered c.in-Some.handle _ c.in-Some-join.ensures.1 rest));
    }

pub returns-clause-ended : goal.returns-clause-ended
returns-clause-ended g c =
    let Handle : Type 0 = PromisedHandle (the_data (FinishedView g.row.N.Denot)) (Threaded g.row.G.Denot) in
    let Ends : List (Threaded g.row.G.Denot) → List (FinishedView g.row.N.Denot) → Type 0 = λ ps fs. AllZip (λ p f. EndsAs g.N.OwnNodes.view_of p.number p.owner f) ps fs in
    let rest = c.loop-handle.handle-iterator.rest in
    let none = nil_from_length rest.items (omega (arith, c.in-None.ensures.steps.0, rest.ok)) in
    subst (λ (fs : List (FinishedView g.row.N.Denot)). Ends (map (λ h. h.promise) c.args.handles.items) fs) (append-nil c.loop-handle.all.items)
    (c.loop-handle.invariant.ended [] (subst (λ (hs : List Handle). Ends (map (λ h. h.promise) hs) []) (sym none) tt))
