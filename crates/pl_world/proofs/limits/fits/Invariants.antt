use Rattle.std.proofs.Common.{◌≡◌, ◌+◌, take}
use Rattle.pl_world.specs.declared.limits.TheConstants.{MAX_ELEMENTS, MAX_BYTES}
use Rattle.pl_world.specs.Limits.{element_count, byte_count}
use Rattle.pl_world.proofs.limits.fits.Given as goal

-- what is left of each limit
abbrev pub invariant-loop-burst : goal.invariant-loop-burst
invariant-loop-burst l = record {
  elements : l.elements + element_count (take l.burst-index l.bursts) ≡ MAX_ELEMENTS;
  bytes : l.bytes + byte_count (take l.burst-index l.bursts) ≡ MAX_BYTES;
}
