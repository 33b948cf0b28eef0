-- What contracts see of a mailbox and its two ends.
use Rattle.std.specs.Prelude.{ℕ}
use Rattle.pl_queue.specs.declared.views.SenderView.{SenderView}
use Rattle.pl_queue.specs.declared.views.TakerView.{TakerView}

-- What contracts see of a mailbox and its two ends. It is the most envelopes that it holds, what a sender and what the taker
-- know, and which senders and which taker it made.
pub record MailboxEnds (M S T : Type 0) : Type 1 where
  pub capacity_of : M → ℕ
  pub sends_of : S → SenderView
  pub takes_of : T → TakerView
  pub is_sender : M → S → Type 0
  pub is_taker : M → T → Type 0
