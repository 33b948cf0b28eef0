use Rattle.std.proofs.Common.{◌≡◌, length, ◌∙◌, refl}
use Rattle.pl_head.specs.WaitingMessages.{entry_numbers}
use Rattle.pl_head.proofs.Accounts.{account-adds, account-same}
use Rattle.pl_head.proofs.outbound_buffer.OutboundBuffer.add_settled.Goals as goal

pub invariant_of-self-clause-account : goal.invariant_of-self-clause-account
invariant_of-self-clause-account c =
    let before = c.args.self.now in
    let number : c.len-number.result ≡ length before.outcomes.items = c.len-number.ensures ∙ before.outcomes.ok.0 in
    account-same refl (rw (c.push_reserved-2.ensures.items, number) refl) (c.push_reserved.ensures.items)
    (account-adds (entry_numbers before.entries.items) before.settled.items before.outcomes.items c.args.outcome before.account)
