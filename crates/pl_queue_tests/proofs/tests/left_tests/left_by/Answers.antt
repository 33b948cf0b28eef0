use Rattle.std.proofs.Common.{ap, []}
use Rattle.pl_event.specs.declared.envelopes.Lane.{Lane}
use Rattle.pl_queue_tests.specs.Relays.{lane_events}
use Rattle.pl_queue_tests.proofs.RelayLemmas.{in_first}
use Rattle.pl_queue_tests.proofs.tests.left_tests.left_by.Goals as goal

pub leave_one_by-requires : goal.leave_one_by-requires
leave_one_by-requires g c = record { world = (ap (λ (l : Lane). l.kind) c.data_lane.ensures, in_first c.data_lane.result (lane_events 2) []) }
