-- What a context that has not failed has given its lanes.
use Rattle.std.specs.Prelude.{◌≡◌, ◌+◌, ◌≤◌, ◌||◌, List, length, take, Bool, true, if◌then◌else◌, Some}
use Rattle.pl_event.specs.declared.events.Event.{Event}
use Rattle.pl_event.specs.declared.envelopes.Lane.{Lane}
use Rattle.pl_event.specs.Hops.{data_lane}
use Rattle.pl_event.specs.Meaning.{Meaning, up_of, down_of}
use Rattle.pl_event.specs.Worlds.{World, content_of}
use Rattle.pl_context.specs.declared.standing.Standing.TheVariants as standings
use Rattle.pl_context.specs.Standings.{is_over}
use Rattle.pl_context.specs.ContextViews.{ContextView, has_up, has_down}
use Rattle.pl_flow.specs.Flows.{Point, point}

-- how far a lane has come that was given so many events, and its end where it is over
abbrev pub point_given : List Event → Bool → Point
point_given events over = point (length events + (if over then 1 else 0)) over

-- What a context has given a data lane. It writes the lane, which has come so far: what its stage makes of the events
-- that it has taken, and the end where the context has ended and, downwards, where its stage has quit after those
-- events. These are the first events of its own lane, and all of them where it has ended.
pub record HasGiven {S : Type 0} (meaning : S → Meaning) (world : World) (c : ContextView S) (l : Lane) (came : Point) : Type 0 where
  pub events : List Event
  pub own : content_of world (data_lane c.channel c.hop) ≡ Some events
  pub within : c.standing ≡ standings.Open → c.taken ≤ length events
  pub all : c.standing ≡ standings.Ended → length events ≤ c.taken
  pub up : has_up (meaning c.stage).direction ≡ true → l ≡ c.up.lane → came ≡ point_given (up_of (meaning c.stage) (take c.taken events)) (is_over c.standing)
  pub down : has_down (meaning c.stage).direction ≡ true → l ≡ c.down.lane
      → came ≡ point_given (down_of (meaning c.stage) (take c.taken events)) (is_over c.standing || (meaning c.stage).ended (take c.taken events))
