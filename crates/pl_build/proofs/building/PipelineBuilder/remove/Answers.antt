use Rattle.std.proofs.Common.{sym, ap, ◌∙◌}
use Rattle.pl_build.specs.Pipelines.{PipelineBuilderView}
use Rattle.pl_build.proofs.PathLemmas.{index_within, stage_of-unknown, stage_of-removed, IsPipeline-remove}
use Rattle.pl_build.proofs.building.PipelineBuilder.remove.Goals as goal

pub invariant_of-self : goal.invariant_of-self
invariant_of-self g c =
    let same = ap (λ (p : PipelineBuilderView g.row.S.Denot). p.handlers) c.self.view_is in
    rw c.remove-stage.ensures.items (IsPipeline-remove g.S.Stage.stands_after c.self.inside.handlers.items c.self.inside.low c.self.inside.high c.in-Some.index (index_within c.args.name.now c.args.self.now.handlers c.self.inside.handlers.items c.in-Some.index same (sym c.index_of.ensures ∙ c.in-Some.is)) c.self.invariant)

pub returns-in-Some-clause-stage : goal.returns-in-Some-clause-stage
returns-in-Some-clause-stage g c =
    let same = ap (λ (p : PipelineBuilderView g.row.S.Denot). p.handlers) c.self.view_is in
    sym (stage_of-removed c.args.name.now c.args.self.now.handlers c.self.inside.handlers.items c.in-Some.index c.remove-stage.result same (sym c.index_of.ensures ∙ c.in-Some.is) c.remove-stage.ensures.value)

pub returns-in-None-clause-stage : goal.returns-in-None-clause-stage
returns-in-None-clause-stage g c = sym (stage_of-unknown c.args.name.now c.args.self.now.handlers (sym c.index_of.ensures ∙ c.in-None.is))
