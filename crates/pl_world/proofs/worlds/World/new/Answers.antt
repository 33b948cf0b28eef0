use Rattle.std.proofs.Common.{◌≡◌, true, subst, rules}
use Rattle.std.specs.Prelude.{All}
use Rattle.pl_build.specs.Paths.{IsPath}
use Rattle.pl_world.specs.Limits.{is_within}
use Rattle.pl_world.specs.Worlds.{recorded}
use Rattle.pl_world.proofs.WorldLimits.{few_joined, all_fit, within_parts}
use Rattle.pl_world.proofs.worlds.World.new.Goals as goal

pub of-requires : goal.of-requires
of-requires g c =
    let a = c.args in
    let within : is_within a.pipelines a.inputs a.transports a.executors ≡ true = search rules in
    let made : c.from_vec.result ≡ recorded a.pipelines a.inputs a.transports = search rules in
    let paths : All (IsPath g.S.Stage.meaning g.S.Stage.stands_after) a.pipelines =
    subst (All (IsPath g.S.Stage.meaning g.S.Stage.stands_after)) c.as_slice.ensures (c.is_within.ensures.paths (search rules)) in
    rw made record {
      executors = (within_parts a.pipelines a.inputs a.transports a.executors within).executors_at_most;
      channels = few_joined g.S.Stage.meaning g.S.Stage.stands_after g.T.Transport.state a.pipelines a.inputs a.transports a.executors within;
      each = all_fit g.S.Stage.meaning g.S.Stage.stands_after g.T.Transport.state a.pipelines a.inputs a.transports a.executors within paths c.requires.small c.requires.uncalled;
    }
