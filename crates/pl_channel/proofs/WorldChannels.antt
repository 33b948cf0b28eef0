-- Each channel of a world may be placed, and has its number in the plan.
use Rattle.std.proofs.Common.{◌≡◌, ℕ, List, ap, sym, ◌∙◌}
use Rattle.std.specs.Prelude.{slice_get, Some, All}
use Rattle.pl_event.specs.Meaning.{Meaning}
use Rattle.pl_event.proofs.Lists.{All-at, All-from-at, map-at}
use Rattle.pl_head.specs.Transports.{TransportState}
use Rattle.pl_world.specs.declared.session.Recorded.{Recorded}
use Rattle.pl_world.specs.Plans.{channel_planned, planned}
use Rattle.pl_world.specs.PlanRules.{IsSmallChannel}
use Rattle.pl_world.specs.Worlds.{WorldView, IsWorld}

module _ {S T : Type 0} (meaning : S → Meaning) (state : T → TransportState) (w : WorldView S T) (is : IsWorld meaning state w) (number : ℕ) (r : Recorded S T) (at : slice_get w.channels number ≡ Some r) where
  pub channel-at : (capacity : ℕ) → slice_get (planned meaning state capacity w.executors w.channels).channels number ≡ Some (channel_planned meaning state r)
  channel-at capacity = map-at (channel_planned meaning state) w.channels number r at

  pub channel-small : IsSmallChannel (channel_planned meaning state r)
  channel-small = All-at IsSmallChannel (planned meaning state 1 w.executors w.channels).channels number (channel_planned meaning state r) (is.small 1).channels (channel-at 1)

-- each channel of a world is small, wherever it is listed
pub recorded-small : {S T : Type 0} (meaning : S → Meaning) (state : T → TransportState) (world : WorldView S T) → IsWorld meaning state world → (rs : List (Recorded S T)) → rs ≡ world.channels
    → All (λ r. IsSmallChannel (channel_planned meaning state r)) rs
recorded-small meaning state world is rs same = All-from-at (λ r. IsSmallChannel (channel_planned meaning state r)) rs
    (λ i r at. channel-small meaning state world is i r (sym (ap (λ l. slice_get l i) same) ∙ at))
