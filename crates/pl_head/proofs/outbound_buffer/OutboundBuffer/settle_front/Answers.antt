use Rattle.std.proofs.Common.{List, [], ◌∷◌, Some, sym, subst, ◌∙◌, ap, refl, arith}
use Rattle.std.proofs.lemmas.List.{length-set}
use Rattle.std.specs.List.Sorted.{IsStrictlyIncreasing}
use Rattle.pl_event.specs.declared.outcomes.Outcome.TheVariants.{Success}
use Rattle.pl_head.specs.declared.outbound_buffer.Entry.{Entry}
use Rattle.pl_head.specs.WaitingMessages.{first_size, entry_numbers}
use Rattle.pl_head.proofs.Buffering.{settles, same_parts}
use Rattle.pl_head.proofs.Accounts.{account-settles, account-same, account-within}
use Rattle.pl_head.proofs.Rising.{rises-rest}
use Rattle.pl_head.proofs.outbound_buffer.OutboundBuffer.settle_front.Goals as goal

pub index_mut-requires : goal.index_mut-requires
index_mut-requires c =
    let before = c.args.self.now in
    let account = account-same (ap (λ (es : List Entry). entry_numbers es) (sym c.in-Some.ensures.items)) refl refl before.account in
    omega (arith, account-within [] (entry_numbers c.pop_front.new.self.items) before.settled.items c.in-Some.first.number before.outcomes.items account, before.outcomes.ok.0)

pub returns-clause-holds : goal.returns-clause-holds
returns-clause-holds c = λ flushed unflushed left ended s.
    let before = c.args.self.now in
    settles c.in-Some.first c.pop_front.new.self.items before.offset before.flushed before.outcomes.items flushed unflushed left ended
    (same_parts (sym c.in-Some.ensures.items) refl refl s) c.requires.flushed (c.requires.written ∙ ap first_size c.in-Some.ensures.items)

pub invariant_of-self-clause-settled_room : goal.invariant_of-self-clause-settled_room
invariant_of-self-clause-settled_room c =
    omega (arith, length-set c.args.self.now.outcomes.items c.in-Some.first.number (Some Success), c.args.self.now.settled_room, c.push_reserved.ensures.capacity)

pub invariant_of-self-clause-account : goal.invariant_of-self-clause-account
invariant_of-self-clause-account c =
    let before = c.args.self.now in
    account-same refl c.push_reserved.ensures.items refl
    (account-settles [] (entry_numbers c.pop_front.new.self.items) before.settled.items c.in-Some.first.number before.outcomes.items Success
    (account-same (ap (λ (ws : List Entry). entry_numbers ws) (sym c.in-Some.ensures.items)) refl refl c.args.self.now.account))

pub invariant_of-self-clause-ordered : goal.invariant_of-self-clause-ordered
invariant_of-self-clause-ordered c =
    rises-rest (c.in-Some.first.number ∷ []) (entry_numbers c.pop_front.new.self.items) (subst (λ (es : List Entry). IsStrictlyIncreasing (entry_numbers es)) c.in-Some.ensures.items c.args.self.now.ordered)

pub returns-clause-settles : goal.returns-clause-settles
returns-clause-settles c =
    record { front = c.in-Some.first.number ∷ []; settled = c.push_reserved.ensures.items; waited = ap (λ (ws : List Entry). entry_numbers ws) c.in-Some.ensures.items; told = refl }
