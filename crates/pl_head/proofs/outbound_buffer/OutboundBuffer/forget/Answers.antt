use Rattle.std.proofs.Common.{◌≡◌, ◌-◌, ◌≤◌, ℕ, All, List, Option, length, take, subst, ap, sym, ◌∙◌, refl, arith, length-drop}
use Rattle.std.specs.List.Sorted.{IsStrictlyIncreasing}
use Rattle.pl_event.specs.declared.outcomes.Outcome.{Outcome}
use Rattle.pl_head.specs.declared.outbound_buffer.Entry.{Entry}
use Rattle.pl_head.specs.declared.outbound_buffer.OutboundBuffer.{OutboundBuffer}
use Rattle.pl_head.specs.Buffers.{first_waiting}
use Rattle.pl_head.specs.OutboundStand.{buffer_view}
use Rattle.pl_head.specs.Settling.{numbers_from}
use Rattle.pl_head.specs.WaitingMessages.{entry_numbers, entries_size}
use Rattle.pl_head.proofs.Accounts.{account-same}
use Rattle.pl_head.proofs.Forgetting.{forgets-first, forgets-by}
use Rattle.pl_head.proofs.Renumbering.{least-waits, account-renumbered, rises-renumbered, size-of, numbers-most}
use Rattle.pl_head.proofs.outbound_buffer.OutboundBuffer.forget.Goals as goal

-- no message has a lower number than the first
least : (b : OutboundBuffer) (first : ℕ) → first ≡ first_waiting (buffer_view b) → All (λ n. first ≤ n) (entry_numbers b.entries.items)
least b first is = subst (λ (m : ℕ). All (λ n. m ≤ n) (entry_numbers b.entries.items)) (sym is) (least-waits b.entries.items (length b.outcomes.items) b.ordered)

pub renumber-requires : goal.renumber-requires
renumber-requires c = record { least = least c.args.self.now c.first_waiting-first.result c.first_waiting-first.ensures.view }

pub invariant_of-self-clause-account : goal.invariant_of-self-clause-account
invariant_of-self-clause-account c =
    let b = c.args.self.now in
    let first = c.first_waiting-first.result in
    account-same (ap (λ (es : List Entry). entry_numbers es) c.renumber.ensures.items) c.keep_from.ensures.items c.drop_first.ensures.items
    (account-renumbered first b.entries.items (least b first c.first_waiting-first.ensures.view) b.settled.items b.outcomes.items c.first_waiting-first.ensures.within b.account)

pub invariant_of-self-clause-ordered : goal.invariant_of-self-clause-ordered
invariant_of-self-clause-ordered c =
    let b = c.args.self.now in
    let first = c.first_waiting-first.result in
    subst (λ (es : List Entry). IsStrictlyIncreasing (entry_numbers es)) (sym c.renumber.ensures.items)
    (rises-renumbered first b.entries.items (least b first c.first_waiting-first.ensures.view) b.ordered)

pub invariant_of-self-clause-settled_room : goal.invariant_of-self-clause-settled_room
invariant_of-self-clause-settled_room c =
    let b = c.args.self.now in
    let left = ap (λ (os : List (Option Outcome)). length os) c.drop_first.ensures.items in
    omega (arith, left, length-drop c.first_waiting-first.result b.outcomes.items, b.settled_room, c.keep_from.ensures.capacity)

pub invariant_of-self-clause-told_within : goal.invariant_of-self-clause-told_within
invariant_of-self-clause-told_within c =
    let b = c.args.self.now in
    let first = c.first_waiting-first.result in
    let told = c.count_from-self.ensures ∙ ap (λ (ns : List ℕ). length (numbers_from first (take b.told ns))) c.as_slice.ensures.value in
    let kept = ap (λ (ns : List ℕ). length ns) c.keep_from.ensures.items in
    omega (arith, told, kept, numbers-most first b.told b.settled.items)

pub invariant_of-self-clause-covered : goal.invariant_of-self-clause-covered
invariant_of-self-clause-covered c =
    let b = c.args.self.now in
    let size = ap (λ (es : List Entry). entries_size es) c.renumber.ensures.items in
    omega (arith, size, size-of c.first_waiting-first.result b.entries.items, b.covered)

pub returns-clause-forgets : goal.returns-clause-forgets
returns-clause-forgets c = λ _.
    let b = c.args.self.now in
    let first = c.first_waiting-first.result in
    forgets-by (buffer_view b) _ first refl c.first_waiting-first.ensures.view c.renumber.ensures.items c.drop_first.ensures.items
    (λ i. c.renumber.ensures.capacity i - c.renumber.ensures.length i) c.keep_from.ensures.items
    (c.count_from-self.ensures ∙ ap (λ (ns : List ℕ). length (numbers_from first (take b.told ns))) c.as_slice.ensures.value)

pub returns-clause-stands : goal.returns-clause-stands
returns-clause-stands c = λ _ accepted ys sizes s.
    let b = c.args.self.now in
    let first = c.first_waiting-first.result in
    let none : b.flushed ≡ 0 = omega arith in
    forgets-first accepted (buffer_view b) ys sizes s none _ (b.offset_zero none)
    (forgets-by (buffer_view b) _ first refl c.first_waiting-first.ensures.view c.renumber.ensures.items c.drop_first.ensures.items
    (λ i. c.renumber.ensures.capacity i - c.renumber.ensures.length i) c.keep_from.ensures.items
    (c.count_from-self.ensures ∙ ap (λ (ns : List ℕ). length (numbers_from first (take b.told ns))) c.as_slice.ensures.value))
