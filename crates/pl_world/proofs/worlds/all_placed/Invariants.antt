use Rattle.std.proofs.Common.{◌≡◌, take, true}
use Rattle.std.specs.Prelude.{All}
use Rattle.std.specs.List.{list_all}
use Rattle.pl_build.specs.Paths.{IsPath}
use Rattle.pl_world.specs.Limits.{is_placed}
use Rattle.pl_world.proofs.worlds.all_placed.Given as goal

-- those so far are placed, and keep to a path
abbrev pub invariant-loop-pipeline : goal.invariant-loop-pipeline
invariant-loop-pipeline g l = record {
  placed : list_all (is_placed l.executors) (take l.pipeline-index l.pipelines) ≡ true;
  paths : All (IsPath g.S.Stage.meaning g.S.Stage.stands_after) (take l.pipeline-index l.pipelines);
}
