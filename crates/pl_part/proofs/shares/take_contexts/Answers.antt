use Rattle.std.proofs.Common.{◌≡◌, ◌<◌, get_or, length, not, refl, sym, ap, ◌∙◌, arith, List, Option, ℕ}
use Rattle.pl_context.specs.ContextViews.{ContextView}
use Rattle.std.specs.Prelude.{◌==◌}
use Rattle.pl_part.specs.Shares.{only_if}
use Rattle.pl_part.proofs.TakenSlots.{taken-more, left-more, behind-more, of-all}
use Rattle.pl_part.proofs.shares.take_contexts.Goals as goal

pub loop-hop-preserved : goal.loop-hop-preserved
loop-hop-preserved g c =
    let before = c.loop-hop.invariant in
    let h = c.loop-hop.hop in
    let now = c.loop-hop.contexts in
    let old = c.args.contexts.now in
    let wanted = (λ (k : ℕ). get_or c.args.executors.now k 0 == c.args.executor) in
    let within : h < length now = omega (arith, c.loop-hop-test.true, c.loop-hop.auto.contexts) in
    let slot = c.index-contexts-hop.result in
    let more = taken-more wanted old h now before.behind c.loop-hop.taken.items before.slots before.taken slot (only_if (wanted h) (get_or now h slot)) c.add_where.new.taken.items within refl c.add_where.ensures.taken in
    record {
      slots = more.0;
      taken = more.1;
      left = left-more wanted old h now before.behind before.left slot c.add_where.new.slot within c.add_where.ensures.left;
      behind = behind-more wanted old h now before.behind c.add_where.new.slot;
      room = let capacity = c.add_where.ensures.capacity in let room = before.room in omega (arith, capacity, room);
    }

pub returns-clause-taken : goal.returns-clause-taken
returns-clause-taken g c =
    let before = c.loop-hop.invariant in
    let end : length c.args.contexts.now ≡ c.loop-hop.hop = omega (arith, c.loop-hop-test.false, c.loop-hop.auto.hop-end) in
    of-all (λ (k : ℕ). get_or c.args.executors.now k 0 == c.args.executor) c.args.contexts.now c.loop-hop.taken.items (before.slots ∙ sym end) (λ k lt. before.taken k (omega (arith, lt, end)))

pub returns-clause-left : goal.returns-clause-left
returns-clause-left g c =
    let before = c.loop-hop.invariant in
    let end : length c.args.contexts.now ≡ c.loop-hop.hop = omega (arith, c.loop-hop-test.false, c.loop-hop.auto.hop-end) in
    of-all (λ (k : ℕ). not (get_or c.args.executors.now k 0 == c.args.executor)) c.args.contexts.now c.loop-hop.contexts c.loop-hop.auto.contexts (λ k lt. before.left k (omega (arith, lt, end)))

pub loop-hop-init : goal.loop-hop-init
loop-hop-init g c = record {
  slots = ap (λ (l : List (Option (ContextView g.row.S.Denot))). length l) c.in_ok-taken.ensures.items;
  taken = λ k lt. absurd (omega (arith, lt));
  left = λ k lt. absurd (omega (arith, lt));
  behind = λ k le. refl;
  room = c.in_ok-taken.ensures.capacity;
}

pub bounds-executors-hop : goal.bounds-executors-hop
bounds-executors-hop g c = omega (arith, c.requires, c.loop-hop-test.true, c.loop-hop.auto.contexts)

pub add_where-requires : goal.add_where-requires
add_where-requires g c =
    let before = c.loop-hop.invariant in
    omega (arith, before.slots, before.room, c.loop-hop-test.true, c.loop-hop.auto.contexts, c.loop-hop.taken.ok.0)

pub returns-clause-slots : goal.returns-clause-slots
returns-clause-slots g c = c.loop-hop.invariant.slots ∙ omega (arith, c.loop-hop-test.false, c.loop-hop.auto.hop-end)

pub bounds-contexts-hop : goal.bounds-contexts-hop
bounds-contexts-hop g c = omega (arith, c.loop-hop-test.true, c.loop-hop.auto.contexts)
