-- What a thread did with the seat that it was given.
use Rattle.std.specs.Prelude.{◌≡◌, ◌+◌, ◌≤◌, ℕ, false, [], ◌∷◌, Option, Some, None}
use Rattle.pl_event.specs.declared.envelopes.Lane.{Lane}
use Rattle.pl_event.specs.Hops.{data_lane}
use Rattle.pl_event.specs.Worlds.{World, carrying}
use Rattle.pl_queue.specs.declared.views.SenderView.{SenderView}
use Rattle.pl_queue.specs.Views.{sent_of}
use Rattle.pl_queue_tests.specs.Relays.{event, lane_events}
use Rattle.pl_post.specs.declared.posts.Unsent.{Unsent}
use Rattle.pl_post.specs.Posts.{back_of}
use Rattle.pl_post_tests.specs.declared.feeding.Fed.{Fed}

-- it has sent this many of a lane: that is its next number
abbrev pub IsNext : Lane → ℕ → SenderView → Type 0
IsNext lane n sends = sent_of lane sends.send_counts ≡ Some (n, false)

-- all were sent; or some, and the next is back
abbrev pub BackOrAll : Lane → ℕ → ℕ → Option Unsent → Type 0
BackOrAll lane count sent None = sent ≡ count
BackOrAll lane count sent (Some why) = back_of why ≡ event lane sent

-- A thread sent some of a lane's events, from the first on, and kept an admission for each.
pub record Feeds (lane : Lane) (count kept : ℕ) (fed : Fed) (sends : SenderView) (kept' : ℕ) : Type 0 where
  pub next : IsNext lane fed.sent sends
  pub few : fed.sent ≤ count
  pub each : kept' ≡ kept + fed.sent
  pub back : BackOrAll lane count fed.sent fed.unsent

-- a world in which so many events come by each of three lanes
abbrev pub three_lanes : ℕ → World
three_lanes count = carrying ((data_lane 0 0, lane_events count) ∷ (data_lane 1 0, lane_events count) ∷ (data_lane 2 0, lane_events count) ∷ [])
