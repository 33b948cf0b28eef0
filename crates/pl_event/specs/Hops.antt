-- Lanes: which are the same, the two of a hop, and which envelopes are on one.
use Rattle.std.specs.Prelude.{ℕ, Bool, true, false, ◌&&◌, ◌==◌}
use Rattle.pl_event.specs.declared.envelopes.Envelope.{Envelope}
use Rattle.pl_event.specs.declared.envelopes.Kind.{Kind}
use Rattle.pl_event.specs.declared.envelopes.Kind.TheVariants.{Data, Flags}
use Rattle.pl_event.specs.declared.envelopes.Lane.{Lane}

-- the lane on which a channel's data enters a hop
abbrev pub data_lane : ℕ → ℕ → Lane
data_lane channel hop = record { channel = channel; kind = Data; hop = hop }

-- the lane on which a channel's flags enter a hop
abbrev pub flags_lane : ℕ → ℕ → Lane
flags_lane channel hop = record { channel = channel; kind = Flags; hop = hop }

abbrev pub same_hop : Lane → Lane → Bool
same_hop a b = (a.channel == b.channel) && (a.hop == b.hop)

abbrev pub same_kind : Kind → Kind → Bool
same_kind Data Data = true
same_kind Data Flags = false
same_kind Flags Data = false
same_kind Flags Flags = true

-- two lanes are of one channel, kind and hop
unfoldable pub same_lane : Lane → Lane → Bool
same_lane a b = same_hop a b && same_kind a.kind b.kind

-- the envelope is on this lane
abbrev pub is_on : Lane → Envelope → Bool
is_on lane x = same_lane lane x.lane
