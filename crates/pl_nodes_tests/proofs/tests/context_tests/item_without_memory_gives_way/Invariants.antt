use Rattle.std.proofs.Common.{[], ◌∷◌}
use Rattle.pl_context.specs.Stops.{HasPlaces}
use Rattle.pl_nodes_tests.specs.Samples.{sample_lane}
use Rattle.pl_nodes_tests.proofs.tests.context_tests.item_without_memory_gives_way.Given as goal

abbrev pub invariant-loop-number : goal.invariant-loop-number
invariant-loop-number g l = HasPlaces l.outputs.stopped (sample_lane ∷ [])
