use Rattle.pl_event.specs.Worlds.{carrying}
use Rattle.std.proofs.Common.{[], ◌∷◌}
use Rattle.pl_queue_tests.specs.Relays.{lane_events}
use Rattle.pl_queue_tests.proofs.tests.left_tests.left_by.Given as goal

abbrev pub ghosts-leave_one_by : goal.ghosts-leave_one_by
ghosts-leave_one_by g a = record { world = carrying ((a.lane, lane_events 2) ∷ []) }
