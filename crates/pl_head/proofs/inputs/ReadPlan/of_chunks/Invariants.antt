use Rattle.std.proofs.Common.{◌≡◌, take, map}
use Rattle.pl_head.specs.ReadSteps.{chunk_burst}
use Rattle.pl_head.proofs.inputs.ReadPlan.of_chunks.Given as goal

abbrev pub invariant-loop-burst : goal.invariant-loop-burst
invariant-loop-burst l = l.made.items ≡ map (λ burst. chunk_burst burst.now) (take l.burst-index l.bursts)
