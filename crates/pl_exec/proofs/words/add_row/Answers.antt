use Rattle.std.proofs.Common.{arith}
use Rattle.std.proofs.lemmas.List.{nil_from_length}
use Rattle.pl_exec.proofs.EachWith.{adds-all, adds-next, adds-none, adds-within}
use Rattle.pl_exec.proofs.words.add_row.Goals as goal

pub loop-sight-init : goal.loop-sight-init
loop-sight-init c = adds-none c.into_iter-sight-iterator.ensures.into_iter_gives.0

pub index_mut-requires : goal.index_mut-requires
index_mut-requires c = let within = adds-within c.loop-sight.invariant c.in-Some.ensures.steps.0 c.requires in omega (arith, within, c.loop-sight.readers.ok.0)

pub overflow_add-number : goal.overflow_add-number
overflow_add-number c = let within = adds-within c.loop-sight.invariant c.in-Some.ensures.steps.0 c.requires in omega (arith, within, c.loop-sight.readers.ok.0)

pub loop-sight-preserved : goal.loop-sight-preserved
loop-sight-preserved c = adds-next c.loop-sight.invariant c.in-Some.ensures.steps.0 c.requires c.index_mut.ensures.value c.in_ok-add.ensures

pub returns : goal.returns
returns c = let left = c.loop-sight.sight-iterator.rest in adds-all c.loop-sight.invariant (nil_from_length left.items (omega (arith, c.in-None.ensures.steps.0, left.ok)))
