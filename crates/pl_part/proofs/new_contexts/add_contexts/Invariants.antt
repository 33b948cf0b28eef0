use Rattle.std.proofs.Common.{◌≡◌, ℕ, ◌+◌, ◌++◌, length, map, replicate, true}
use Rattle.std.specs.Prelude.{is_some}
use Rattle.std.specs.List.{sum_by}
use Rattle.std.specs.Vec.Iter.{into_iter_items}
use Rattle.pl_event.specs.Worlds.{World}
use Rattle.pl_part.specs.NewParts.{ArePlanned, AreNewSlots, new_slots}
use Rattle.pl_part.specs.Counts.{slot_done}
use Rattle.pl_part.proofs.new_contexts.add_contexts.Given as goal

-- the stages so far stand at their hops
abbrev pub invariant-loop-stage : goal.invariant-loop-stage
invariant-loop-stage g l = record {
  rest : l.yielded ++ into_iter_items l.stage-iterator ≡ l.fn.stages.items;
  count : length l.contexts.items ≡ length l.fn.contexts.items + length l.yielded;
  slots : l.contexts.items ≡ l.fn.contexts.items ++ new_slots g.S.Stage.meaning l.fn.channel l.fn.k (length l.fn.contexts.items) l.yielded;
  filled : map (λ slot. is_some slot) l.contexts.items ≡ map (λ slot. is_some slot) l.fn.contexts.items ++ replicate (length l.yielded) true;
  new : (world : World) (turn : ℕ) → ArePlanned world g.S.Stage.meaning l.fn.channel l.fn.k turn (length l.fn.contexts.items) l.fn.stages.items
      → AreNewSlots world g.S.Stage.meaning l.fn.channel l.fn.k turn g.S.Stage.stands_after l.fn.contexts.items
      → AreNewSlots world g.S.Stage.meaning l.fn.channel l.fn.k turn g.S.Stage.stands_after l.contexts.items;
  done : sum_by (λ slot. slot_done slot) l.contexts.items ≡ sum_by (λ slot. slot_done slot) l.fn.contexts.items;
}
