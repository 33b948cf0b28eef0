use Rattle.std.proofs.Common.{List, ◌∷◌, [], ◌++◌, map, ap, sym, subst, ◌∙◌}
use Rattle.pl_build.specs.Pipelines.{PipelineBuilderView}
use Rattle.pl_build.specs.Executors.{GroupsView, HasPlaced, sizes_of, groups_of}
use Rattle.pl_build.specs.Counts.{grouping_after}
use Rattle.pl_build.specs.declared.named_stages.NamedStage.{NamedStage}
use Rattle.pl_build.proofs.GroupLemmas.{HasPlaced-after, sizes_of-after}
use Rattle.pl_build.proofs.PathLemmas.{inbound-meanings, outbound-meanings, executors-placed, executors-within, one_turn}
use Rattle.pl_build.proofs.building.PipelineBuilder.build.Goals as goal

pub returns-in-Ok-clause-inbound_path : goal.returns-in-Ok-clause-inbound_path
returns-in-Ok-clause-inbound_path g c =
    ap (λ stages. map g.S.Stage.meaning stages) c.into_placed.ensures.inbound ∙ inbound-meanings g.S.Stage.meaning c.args.self.handlers

pub returns-in-Ok-clause-outbound_path : goal.returns-in-Ok-clause-outbound_path
returns-in-Ok-clause-outbound_path g c =
    ap (λ stages. map g.S.Stage.meaning stages) c.into_placed.ensures.outbound ∙ outbound-meanings g.S.Stage.meaning c.args.self.handlers

pub returns-in-Ok-clause-executors : goal.returns-in-Ok-clause-executors
returns-in-Ok-clause-executors g c =
    λ earlier h. c.into_placed.ensures.executors ∙ c.in-Ok.ensures.executors ∙ executors-placed g.S.Stage.meaning c.args.groups.now earlier c.args.self.handlers h c.in-Ok.ensures.allowed

pub returns-in-Ok-clause-counted : goal.returns-in-Ok-clause-counted
returns-in-Ok-clause-counted g c =
    let same = c.as_slice.ensures.value ∙ ap (λ (p : PipelineBuilderView g.row.S.Denot). p.handlers) c.self.view_is in
    let placed = c.count_pipeline.ensures.after ∙ ap (λ (hs : List (NamedStage g.row.S.Denot)). grouping_after c.args.groups.now (groups_of hs)) same in
    λ earlier h. let Placed : GroupsView → Type 0 = λ x. HasPlaced x (earlier ++ groups_of c.args.self.handlers ∷ []) in
    subst Placed (sym placed) (HasPlaced-after c.args.groups.now earlier (groups_of c.args.self.handlers) h)

pub returns-in-Ok-clause-same_groups : goal.returns-in-Ok-clause-same_groups
returns-in-Ok-clause-same_groups g c =
    (ap (λ (x : GroupsView). x.loops) c.count_pipeline.ensures.after, ap (λ (x : GroupsView). sizes_of x) c.count_pipeline.ensures.after ∙ sizes_of-after c.args.groups.now (groups_of c.as_slice.result.now))

pub into_placed-requires-clause-turn : goal.into_placed-requires-clause-turn
into_placed-requires-clause-turn g c = one_turn g.S.Stage.meaning (sizes_of c.args.groups.now) c.args.self.handlers c.in-Ok.ensures.allowed

pub returns-in-Ok-clause-executors_are_there : goal.returns-in-Ok-clause-executors_are_there
returns-in-Ok-clause-executors_are_there g c =
    executors-within g.S.Stage.meaning c.args.groups.now c.args.self.handlers c.into_placed.result.executors c.count_pipeline.ensures.valid c.in-Ok.ensures.allowed (c.into_placed.ensures.executors ∙ c.in-Ok.ensures.executors)
