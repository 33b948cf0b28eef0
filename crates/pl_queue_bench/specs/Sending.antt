-- What senders of flags have sent.
use Rattle.std.specs.Prelude.{◌≡◌, ◌<◌, ◌≤◌, ℕ, false, List, get_or, Some}
use Rattle.pl_event.specs.Hops.{flags_lane}
use Rattle.pl_queue.specs.declared.views.SenderView.{SenderView}
use Rattle.pl_queue.specs.Views.{sent_of}

-- the next number of the flags lanes of these hops of a channel
pub record HasNext (channel from to number : ℕ) (s : SenderView) : Type 0 where
  pub next : (hop : ℕ) → from ≤ hop → hop < to → sent_of (flags_lane channel hop) s.send_counts ≡ Some (number, false)

-- each of these senders, by its place, has a channel, of whose hops this is the next number
abbrev pub AllHaveNext : {S : Type 0} → (S → Type 0) → (S → SenderView) → ℕ → ℕ → ℕ → ℕ → List S → Type 0
AllHaveNext {S} made sends hops number from to senders =
    (i : ℕ) (s : S) → from ≤ i → i < to → s ≡ get_or senders i s → made s × HasNext i 0 hops number (sends s)
