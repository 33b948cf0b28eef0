use Rattle.std.proofs.Common.{◌≡◌, ℕ, ◌+◌, ◌++◌, ◌∷◌, [], List, length, replicate, refl, ap, sym, subst, ◌∙◌, arith, length-append}
use Rattle.std.specs.Global.{Vec}
use Rattle.std.specs.Prelude.{Option}
use Rattle.std.proofs.lemmas.List.{length-map, nil_from_length}
use Rattle.pl_part.specs.declared.kept.KeptStage.{KeptStage}
use Rattle.pl_threads.specs.Running.{FinishedView}
use Rattle.pl_exec.specs.declared.nodes.ExecutorNodes.{ExecutorNodes}
use Rattle.pl_exec.specs.ChannelRows.{IsChannelRow}
use Rattle.pl_exec.specs.Reported.{nothing_found}
use Rattle.pl_exec.specs.RunStages.{slots_in}
use Rattle.pl_exec.proofs.LeftEnds.{AreFound, none-found, all-left, next-finished, number-at, numbers-count}
use Rattle.pl_exec.proofs.LeftStages.{AreFoundRows, all-stages, next-stages, none-stages}
use Rattle.pl_exec.proofs.FilledSlots.{all-empty}
use Rattle.pl_exec.proofs.ListSteps.{all-done, at-next, one-more}
use Rattle.pl_exec.proofs.reporting.ran_of.Goals as goal

pub loop-executor-init : goal.loop-executor-init
loop-executor-init g c = record {
  rest = c.into_iter-executor-iterator.ensures.into_iter_gives.0;
  found = none-found g.T.Transport.state g.W.Planned.plan c.in_ok-found.found.items (c.in_ok-found.ensures ∙ ap (λ (n : ℕ). replicate n nothing_found) c.requires.channels);
  stages = none-stages g.S.Stage.stands_after g.W.Planned.plan (slots_in c.in_ok-stages.stages.items) (all-empty c.in_ok-stages.stages.items c.in_ok-stages.ensures.none ∙ ap (λ (n : ℕ). replicate n []) (c.in_ok-stages.ensures.count ∙ c.requires.channels));
}

pub loop-executor-preserved : goal.loop-executor-preserved
loop-executor-preserved g c =
    let state = g.T.Transport.state in
    let plan = g.W.Planned.plan in
    let inv = c.loop-executor.invariant in
    let done = c.loop-executor.yielded in
    let finished = c.in-Some.executor in
    let nodes = c.into_nodes-here.result in
    let left = c.into_nodes-here.ensures in
    let number = λ (n : ExecutorNodes g.row.S.Denot g.row.T.Denot). n.number in
    let executor = λ (e : FinishedView (ExecutorNodes g.row.S.Denot g.row.T.Denot)). e.nodes.number in
    let at = at-next c.args.finished.items done c.loop-executor.executor-iterator.rest.items c.next.new.self.rest.items finished (length done) inv.rest c.in-Some.ensures.steps.0 refl in
    let own = ap number left.nodes ∙ number-at executor c.args.finished.items plan.executors (length done) finished c.requires.executors at in
    let count : length done + 1 ≡ length (done ++ finished ∷ []) = omega (arith, length-append done (finished ∷ [])) in
    record {
      rest = one-more c.args.finished.items done c.loop-executor.executor-iterator.rest.items c.next.new.self.rest.items finished c.in-Some.ensures.steps.0 inv.rest;
      found =
          subst (λ (n : ℕ). AreFound state plan n c.find_nodes.new.found.items) count
          (next-finished state plan g.S.Stage.meaning g.S.Stage.stands_after nodes.number nodes.was_refused nodes left.stands.in_order g.W.Named.world (length done) c.loop-executor.found.items c.find_nodes.new.found.items
          left.stands.is_world left.stands.nodes left.over own inv.found c.in_ok-find_nodes.ensures.ends);
      stages =
          subst (λ (n : ℕ). AreFoundRows g.S.Stage.stands_after plan n (slots_in c.find_nodes.new.stages.items)) count
          (next-stages g.S.Stage.stands_after plan state g.S.Stage.meaning nodes.number nodes.was_refused nodes left.stands.in_order g.W.Named.world (length done) (slots_in c.loop-executor.stages.items) (slots_in c.find_nodes.new.stages.items)
          left.stands.is_world left.stands.nodes left.over own inv.stages c.in_ok-find_nodes.ensures.stages);
    }

pub reports-requires : goal.reports-requires
reports-requires g c =
    let state = g.T.Transport.state in
    let plan = g.W.Planned.plan in
    let inv = c.loop-executor.invariant in
    let rest = c.loop-executor.executor-iterator.rest in
    let whole = all-done c.args.finished.items c.loop-executor.yielded rest.items (nil_from_length rest.items (omega (arith, c.in-None.ensures.steps.0, rest.ok))) inv.rest in
    let count = ap (λ (l : List (FinishedView (ExecutorNodes g.row.S.Denot g.row.T.Denot))). length l) whole ∙ numbers-count (λ (e : FinishedView (ExecutorNodes g.row.S.Denot g.row.T.Denot)). e.nodes.number) c.args.finished.items plan.executors c.requires.executors in
    all-left state plan c.loop-executor.found.items c.requires.plan (subst (λ (n : ℕ). AreFound state plan n c.loop-executor.found.items) count inv.found)

pub find_nodes-requires-clause-row : goal.find_nodes-requires-clause-row
find_nodes-requires-clause-row g c = subst (λ (n : ℕ). IsChannelRow n c.into_nodes-here.result.here.items) (sym c.loop-executor.invariant.found.count) c.into_nodes-here.ensures.stands.in_order.row

pub find_nodes-requires-clause-parts : goal.find_nodes-requires-clause-parts
find_nodes-requires-clause-parts g c = c.into_nodes-here.ensures.stands.in_order.parts

pub find_nodes-requires-clause-count : goal.find_nodes-requires-clause-count
find_nodes-requires-clause-count g c =
    let inv = c.loop-executor.invariant in
    sym (length-map c.loop-executor.stages.items (λ (row : Vec (Option (KeptStage g.row.S.Denot))). row.items)) ∙ inv.stages.count ∙ sym inv.found.count

pub returns : goal.returns
returns g c =
    let plan = g.W.Planned.plan in
    let inv = c.loop-executor.invariant in
    let rest = c.loop-executor.executor-iterator.rest in
    let whole = all-done c.args.finished.items c.loop-executor.yielded rest.items (nil_from_length rest.items (omega (arith, c.in-None.ensures.steps.0, rest.ok))) inv.rest in
    let count = ap (λ (l : List (FinishedView (ExecutorNodes g.row.S.Denot g.row.T.Denot))). length l) whole ∙ numbers-count (λ (e : FinishedView (ExecutorNodes g.row.S.Denot g.row.T.Denot)). e.nodes.number) c.args.finished.items plan.executors c.requires.executors in
    let rows = slots_in c.loop-executor.stages.items in
    record {
      ran = record {
        report = c.in_ok-reports.ensures.run;
        stages = all-stages g.S.Stage.stands_after plan rows c.requires.plan (subst (λ (n : ℕ). AreFoundRows g.S.Stage.stands_after plan n rows) count inv.stages);
      };
    }
