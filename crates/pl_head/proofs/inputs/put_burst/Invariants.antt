use Rattle.std.specs.Vec.Iter.{into_iter_items}
use Rattle.pl_head.proofs.Feeding.{Feeding}
use Rattle.pl_head.proofs.inputs.put_burst.Given as goal

abbrev pub invariant-loop-element : goal.invariant-loop-element
invariant-loop-element l = Feeding l.fn.port l.port l.fn.outputs l.outputs l.fn.elements.items (into_iter_items l.element-iterator)
