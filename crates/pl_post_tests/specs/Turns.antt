-- Seats with the lanes of 64 channels each, which send on them in turn.
use Rattle.std.specs.Prelude.{◌≡◌, ◌+◌, ◌<◌, ◌≤◌, ℕ, zero, suc, List, [], ◌∷◌, map, length, slice_index, Some}
use Rattle.std.specs.List.{range_with_len}
use Rattle.pl_event.specs.declared.envelopes.Lane.{Lane}
use Rattle.pl_event.specs.Hops.{data_lane}
use Rattle.pl_event.specs.Worlds.{World, carrying, content_of}
use Rattle.pl_queue.specs.declared.views.SenderView.{SenderView}
use Rattle.pl_queue.specs.Ends.{MailboxEnds}
use Rattle.pl_queue_tests.specs.Relays.{lane_events}
use Rattle.pl_post.specs.Posts.{PostView, PostSeatView, IsSeatOf}
use Rattle.pl_post_tests.specs.Feeding.{IsNext}

-- the data lanes that enter hop 0 of so many channels
abbrev pub lanes_from : ℕ → ℕ → List Lane
lanes_from first count = map (λ channel. data_lane channel 0) (range_with_len first count)

-- the same for each of so many seats, 64 for one
abbrev pub lists_from : ℕ → ℕ → List (List Lane)
lists_from first zero = []
lists_from first (suc count) = lanes_from first 64 ∷ lists_from (first + 64) count

-- a world in which 999 events come by each of 256 lanes
abbrev pub all_carry : World
all_carry = carrying (map (λ lane. (lane, lane_events 999)) (lanes_from 0 256))

pub record CarriesAll (world : World) : Type 0 where
  pub each : (channel : ℕ) → channel < 256 → content_of world (data_lane channel 0) ≡ Some (lane_events 999)

-- of the lanes of 64 channels so many were sent
abbrev pub AreNext : ℕ → List ℕ → SenderView → Type 0
AreNext first sent sends = (turn : ℕ) → turn < 64 → IsNext (data_lane (first + turn) 0) (slice_index sent turn) sends

module _ {M S T : Type 0} (ends : MailboxEnds M S T) where
  -- the post's seat has these lanes, and so many of each were sent
  pub record IsInTurn (p : PostView M) (s : PostSeatView S) (first : ℕ) (sent : List ℕ) : Type 0 where
    pub seat : IsSeatOf ends p s
    pub low : first ≤ 192
    pub all : length sent ≡ 64
    pub next : AreNext first sent (ends.sends_of s.sender)
    pub few : (turn : ℕ) → turn < 64 → slice_index sent turn ≤ 999
