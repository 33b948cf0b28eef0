use Rattle.std.proofs.Common.{◌≡◌, take}
use Rattle.pl_head.specs.ReadSteps.{chunk_burst}
use Rattle.pl_head.proofs.inputs.chunk_burst.Given as goal

abbrev pub invariant-loop-chunk : goal.invariant-loop-chunk
invariant-loop-chunk l = l.burst.items ≡ chunk_burst (take l.chunk-index l.chunks)
