use Rattle.std.proofs.Common.{◌≡◌, ◌∷◌, [], length, Some, ◌∙◌, sym, refl, arith}
use Rattle.std.proofs.lemmas.List.{map-append}
use Rattle.pl_event.specs.declared.events.Event.{Event}
use Rattle.pl_event.specs.declared.events.Event.TheVariants.{Write}
use Rattle.pl_event.specs.declared.events.Message.TheVariants.{Bytes}
use Rattle.pl_head.specs.declared.outbound_buffer.Entry.{Entry}
use Rattle.pl_head.specs.Writes.{flushed_writes, unflushed_writes}
use Rattle.pl_head.specs.WaitingMessages.{entry_numbers}
use Rattle.pl_head.proofs.Buffering.{adds, same_parts}
use Rattle.pl_head.proofs.Taking.{out-keep, stands-push}
use Rattle.pl_head.proofs.WaitingSizes.{first_size-push, entries_size-push}
use Rattle.pl_head.proofs.Accounts.{account-waits, account-same}
use Rattle.pl_head.proofs.Rising.{rises-waits}
use Rattle.pl_head.proofs.outbound_buffer.OutboundBuffer.add_message.Goals as goal

pub invariant_of-self-clause-account : goal.invariant_of-self-clause-account
invariant_of-self-clause-account c =
    let before = c.args.self.now in
    let number : c.len-number.result ≡ length before.outcomes.items = c.len-number.ensures ∙ before.outcomes.ok.0 in
    let added : Entry = record { number = c.len-number.result; bytes = c.args.bytes } in
    account-same
    (rw (c.push_back_reserved.ensures.items, map-append (λ (e : Entry). e.number) before.entries.items (added ∷ []), number) refl)
    refl (c.push_reserved.ensures.items)
    (account-waits (entry_numbers before.entries.items) before.settled.items before.outcomes.items before.account)

pub invariant_of-self-clause-ordered : goal.invariant_of-self-clause-ordered
invariant_of-self-clause-ordered c =
    let before = c.args.self.now in
    let number : c.len-number.result ≡ length before.outcomes.items = c.len-number.ensures ∙ before.outcomes.ok.0 in
    let added : Entry = record { number = c.len-number.result; bytes = c.args.bytes } in
    rw (c.push_back_reserved.ensures.items, map-append (λ (e : Entry). e.number) before.entries.items (added ∷ []), number)
    (rises-waits (entry_numbers before.entries.items) before.settled.items before.outcomes.items before.account before.ordered)

pub invariant_of-self-clause-covered : goal.invariant_of-self-clause-covered
invariant_of-self-clause-covered c =
    let before = c.args.self.now in
    let added : Entry = record { number = c.len-number.result; bytes = c.args.bytes } in
    rw (c.push_back_reserved.ensures.items, entries_size-push before.entries.items added) (omega (arith, c.add.ensures.pending, c.len-size.ensures, before.covered))

pub returns-clause-stands : goal.returns-clause-stands
returns-clause-stands c = λ accepted ys sizes s.
    let before = c.args.self.now in
    let event : Event = Write (Bytes c.args.bytes) in
    let number : c.len-number.result ≡ length before.outcomes.items = c.len-number.ensures ∙ before.outcomes.ok.0 in
    let added : Entry = record { number = c.len-number.result; bytes = c.args.bytes } in
    record {
      left = s.left;
      messages =
          stands-push ys event (Some c.args.bytes ∷ []) refl refl
          (same_parts (rw (c.push_back_reserved.ensures.items, number) refl) refl (rw (c.push_reserved.ensures.items) refl)
          (adds before.entries.items before.offset before.flushed before.outcomes.items (flushed_writes ys) (unflushed_writes ys) s.left (Some c.args.bytes) s.messages));
      output = s.output ∙ sym (out-keep ys event refl);
      at_rest =
          λ some. rw (c.push_back_reserved.ensures.items, first_size-push before.entries.items added (omega (arith, some, before.flushed_within))) (s.at_rest some);
      size =
          rw (c.push_back_reserved.ensures.items, entries_size-push before.entries.items added) (omega (arith, c.add.ensures.pending, c.len-size.ensures, s.size));
      marks = rw (← c.len-size.ensures) (c.add.ensures.stands sizes s.marks);
    }
