-- How far a lane has come at a sender, and behind what waits there.
use Rattle.std.specs.Prelude.{cond, List, [], ◌∷◌}
use Rattle.pl_event.specs.declared.envelopes.Envelope.{Envelope}
use Rattle.pl_event.specs.declared.envelopes.Lane.{Lane}
use Rattle.pl_event.specs.Hops.{same_lane}
use Rattle.pl_event.specs.Worlds.{World}
use Rattle.pl_queue.specs.declared.views.SendCount.{SendCount}
use Rattle.pl_flow.specs.Flows.{Point, point, nowhere, on, IsFlow, past}

-- What was sent on a lane. On a lane that is not the sender's nothing ever follows.
abbrev pub sent_at : List SendCount → Lane → Point
sent_at [] l = nowhere
sent_at (s ∷ ss) l = cond (same_lane l s.lane) (point s.next s.ended) (sent_at ss l)

-- on each lane, what waits follows what was sent
abbrev pub AreBehind : World → List SendCount → List Envelope → Type 0
AreBehind world counts waits = (l : Lane) → IsFlow world (sent_at counts l) (on l waits)

-- how far a lane has come behind what waits
abbrev pub behind : List SendCount → List Envelope → Lane → Point
behind counts waits l = past (sent_at counts l) (on l waits)
