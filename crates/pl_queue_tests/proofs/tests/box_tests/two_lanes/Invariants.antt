use Rattle.pl_queue_tests.specs.Relays.{two_lanes}
use Rattle.pl_queue_tests.proofs.tests.box_tests.two_lanes.Given as goal

abbrev pub ghosts-relay_by : goal.ghosts-relay_by
ghosts-relay_by g a = record { world = two_lanes a.lanes.first a.lanes.second a.lanes.last }
