use Rattle.std.proofs.Common.{◌≡◌, ℕ, ◌+◌, ◌<◌, List, [], ◌∷◌, ◌++◌, length, take, drop, suc, ap, sym, ◌∙◌, refl, arith, append_assoc}
use Rattle.pl_head.specs.declared.outbound_buffer.Entry.{Entry}
use Rattle.pl_head.specs.WaitingMessages.{entries_size, settled_all, entry_numbers}
use Rattle.pl_head.proofs.Accounts.{account-split, account-at, account-same, within-at}
use Rattle.pl_head.proofs.WaitingSizes.{drop-at, entries_size-cons, entries_size-split}
use Rattle.pl_head.proofs.outbound_buffer.settle_from.Goals as goal
use Rattle.pl_head.proofs.outbound_buffer.settle_from.Goals.{After-index-entry}

pub loop-i-init : goal.loop-i-init
loop-i-init c =
    record {
      outcomes = refl;
      size = omega arith;
      account = account-split c.args.entries.now.items c.args.start c.requires.account;
      settled = refl;
      len = refl;
      room = refl;
      settled_room = refl;
    }

-- ---- the entry that is settled next

module _ (c : After-index-entry) where
  within : c.loop-i.i < length c.args.entries.now.items
  within = omega (arith, c.loop-i-test.true, c.len-i-end.ensures, c.args.entries.now.ok.0)

  here : drop c.loop-i.i c.args.entries.now.items ≡ c.index-entry.result.now ∷ drop (suc c.loop-i.i) c.args.entries.now.items
  here = drop-at c.args.entries.now.items c.loop-i.i c.index-entry.result.now within c.index-entry.ensures

pub index_mut-requires : goal.index_mut-requires
index_mut-requires c =
    let es = c.args.entries.now.items in
    omega (arith, within-at es c.loop-i.i c.index-entry.result.now (within (goal.at.index_mut-requires c).After-index-entry) c.index-entry.ensures (entry_numbers (take c.args.start es)) c.loop-i.settled.items c.loop-i.outcomes.items c.loop-i.invariant.account, c.loop-i.outcomes.ok.0)

pub overflow_add-size : goal.overflow_add-size
overflow_add-size c =
    let es = c.args.entries.now.items in
    let size = ap (λ (t : List Entry). entries_size t) (here (goal.at.overflow_add-size c).After-index-entry) in
    omega (arith, size, entries_size-cons c.index-entry.result.now (drop (suc c.loop-i.i) es), c.loop-i.invariant.size, entries_size-split c.args.start es, c.requires.small, c.len.ensures)

pub loop-i-preserved : goal.loop-i-preserved
loop-i-preserved c =
    let es = c.args.entries.now.items in
    let i = c.loop-i.i in
    let entry = c.index-entry.result.now in
    let before = c.loop-i.invariant in
    let at = (goal.at.loop-i-preserved c).After-index-entry in
    let size = ap (λ (t : List Entry). entries_size t) (here at) in
    let next : i + 1 ≡ suc i = omega arith in
    rw next
    (record {
      outcomes = sym (ap (λ (t : List Entry). settled_all c.args.outcome t c.loop-i.outcomes.items) (here at)) ∙ before.outcomes;
      size = omega (arith, size, entries_size-cons entry (drop (suc i) es), before.size, c.len.ensures);
      account =
          account-same refl c.push_reserved.ensures.items refl
          (account-at es i entry (within at) c.index-entry.ensures (entry_numbers (take c.args.start es)) c.loop-i.settled.items c.loop-i.outcomes.items before.account c.args.outcome);
      settled =
          ap (λ (ns : List ℕ). ns ++ entry_numbers (drop (suc i) es)) c.push_reserved.ensures.items
          ∙ append_assoc c.loop-i.settled.items (entry.number ∷ []) (entry_numbers (drop (suc i) es))
          ∙ ap (λ (t : List Entry). c.loop-i.settled.items ++ entry_numbers t) (sym (here at))
          ∙ before.settled;
      len = before.len;
      room = before.room;
      settled_room = c.push_reserved.ensures.capacity ∙ before.settled_room;
    })
