use Rattle.std.proofs.Common.{◌≡◌, ◌++◌}
use Rattle.pl_world.specs.Worlds.{recorded}
use Rattle.pl_world.proofs.worlds.joined.Given as goal

-- those that are joined come before those that are left
abbrev pub invariant-loop-pipeline : goal.invariant-loop-pipeline
invariant-loop-pipeline g l =
    let left = l.pipeline-iterator in
    l.channels.items ++ recorded left.a.a.rest.items left.a.b.rest.items left.b.rest.items ≡ recorded l.fn.pipelines.items l.fn.inputs.items l.fn.transports.items
