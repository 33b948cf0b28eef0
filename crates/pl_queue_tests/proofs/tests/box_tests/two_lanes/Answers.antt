use Rattle.std.proofs.Common.{ap, ap₂, [], ◌∷◌}
use Rattle.pl_event.specs.declared.envelopes.Lane.{Lane}
use Rattle.pl_event.specs.Hops.{same_lane}
use Rattle.pl_queue_tests.specs.Relays.{lane_events}
use Rattle.pl_queue_tests.proofs.RelayLemmas.{in_first, in_second}
use Rattle.pl_queue_tests.proofs.tests.box_tests.two_lanes.Goals as goal

pub relay_by-requires-clause-apart : goal.relay_by-requires-clause-apart
unfolding same_lane
relay_by-requires-clause-apart g c κs within = ap₂ same_lane c.data_lane.ensures c.data_lane-2.ensures

pub relay_by-requires-clause-first : goal.relay_by-requires-clause-first
relay_by-requires-clause-first g c κs within = (ap (λ (l : Lane). l.kind) c.data_lane.ensures, in_first c.data_lane.result (lane_events 999) ((c.data_lane-2.result, lane_events 999) ∷ []))

pub relay_by-requires-clause-second : goal.relay_by-requires-clause-second
unfolding same_lane
relay_by-requires-clause-second g c κs within =
    (ap (λ (l : Lane). l.kind) c.data_lane-2.ensures, in_second c.data_lane.result c.data_lane-2.result (lane_events 999) (lane_events 999) (ap₂ same_lane c.data_lane-2.ensures c.data_lane.ensures))
