use Rattle.std.proofs.Common.{◌≡◌, ◌+◌, take, sum_by}
use Rattle.pl_event.specs.Inputs.{element_size}
use Rattle.pl_world.proofs.limits.bytes_left.Given as goal

-- what is left is the limit less the bytes so far
abbrev pub invariant-loop-element : goal.invariant-loop-element
invariant-loop-element l = l.left + sum_by element_size (take l.element-index l.elements) ≡ l.limit
