use Rattle.std.specs.Vec.Iter.{into_iter_items}
use Rattle.pl_exec.specs.SessionWords.{with_sight}
use Rattle.pl_exec.proofs.EachWith.{AddsFirst}
use Rattle.pl_exec.proofs.words.add_row.Given as goal

abbrev pub invariant-loop-sight : goal.invariant-loop-sight
invariant-loop-sight l = AddsFirst with_sight l.fn.readers.items l.fn.row.items l.yielded (into_iter_items l.sight-iterator) l.number l.readers.items
