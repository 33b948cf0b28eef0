use Rattle.std.proofs.Common.{◌≡◌, take}
use Rattle.pl_world.specs.Worlds.{chunk_plans}
use Rattle.pl_world.proofs.memory_worlds.read_plans.Given as goal

abbrev pub invariant-loop-input : goal.invariant-loop-input
invariant-loop-input l = l.plans.items ≡ chunk_plans (take l.input-index l.inputs)
