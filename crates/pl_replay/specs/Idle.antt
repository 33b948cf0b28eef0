-- Executors at which nothing waits, with places for the lanes between them.
use Rattle.std.specs.Prelude.{◌≡◌, ℕ, ◌<◌, false, List, [], length, map, slice_get, Some}
use Rattle.std.specs.List.{range_with_len}
use Rattle.pl_event.specs.declared.envelopes.Lane.{Lane}
use Rattle.pl_context.specs.Stops.{HasPlaces, has_stopped, no_stops}
use Rattle.pl_context.specs.WaitingViews.{Holds}
use Rattle.pl_part.specs.Parts.{ChannelPartView}
use Rattle.pl_net.specs.Nets.{StationView, stops_at}
use Rattle.pl_channel.specs.Ways.{lanes_between}

module _ {S T : Type 0} (ps : List (ChannelPartView S T)) where
  -- Nothing waits at executor x, and it has places for the lanes from it to each of so many.
  pub record IsIdle (count x : ℕ) (e : StationView) : Type 0 where
    pub queue : e.queue ≡ []
    pub waiting : Holds e.waiting []
    pub added : e.waiting.added ≡ 0
    pub places : map (λ b. b.stopped) e.waiting.targets ≡ map (λ y. no_stops (length (lanes_between ps x y))) (range_with_len 0 count)

  -- So many executors at which nothing waits, each with places for the lanes from it to each.
  pub record AreIdle (so_many : ℕ) (stations : List StationView) : Type 0 where
    pub count : length stations ≡ so_many
    pub queues : (y : ℕ) (e : StationView) → slice_get stations y ≡ Some e → (e.queue ≡ []) × Holds e.waiting [] × (e.waiting.added ≡ 0) × (length e.waiting.targets ≡ length stations)
    pub unstopped : (y z : ℕ) (l : Lane) → has_stopped (stops_at stations y z) l ≡ false
    pub placed : (y z : ℕ) → y < so_many → z < so_many → HasPlaces (stops_at stations y z) (lanes_between ps y z)
