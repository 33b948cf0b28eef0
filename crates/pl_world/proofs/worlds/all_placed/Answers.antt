use Rattle.std.proofs.Common.{sym, ◌∙◌, ap, subst, refl, length, ◌<◌, arith}
use Rattle.std.proofs.lemmas.List.Elements.{All-more}
use Rattle.std.proofs.lemmas.List.Folds.{list_all_more}
use Rattle.pl_build.specs.Paths.{IsPath}
use Rattle.pl_world.specs.Limits.{is_placed}
use Rattle.pl_world.proofs.worlds.all_placed.Goals as goal

pub loop-pipeline-preserved : goal.loop-pipeline-preserved
loop-pipeline-preserved g c =
    let i = c.loop-pipeline.pipeline-index in
    let pipelines = c.args.pipelines.now in
    let path = c.pipeline-item.result in
    let Kept = IsPath g.S.Stage.meaning g.S.Stage.stands_after in
    let within : i < length pipelines = omega arith in
    let placed = sym c.is_placed.ensures.placed ∙ c.if-not-is_placed.false in
    record {
      placed = list_all_more (is_placed c.args.executors) pipelines i path within ∙ rw (c.loop-pipeline.invariant.placed, ap (is_placed c.args.executors) (sym c.pipeline-item.is) ∙ placed) refl;
      paths = All-more Kept pipelines i path within c.loop-pipeline.invariant.paths (subst Kept c.pipeline-item.is c.is_placed.ensures.path);
    }
