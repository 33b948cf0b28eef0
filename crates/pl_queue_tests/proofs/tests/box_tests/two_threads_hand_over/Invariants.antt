use Rattle.pl_event.specs.Worlds.{carrying}
use Rattle.std.proofs.Common.{[], ◌∷◌, map}
use Rattle.pl_queue_tests.specs.Lines.{line_read}
use Rattle.pl_queue_tests.proofs.tests.box_tests.two_threads_hand_over.Given as goal

abbrev pub ghosts-lines_by : goal.ghosts-lines_by
ghosts-lines_by g a = record { world = carrying ((a.first.lane, map line_read a.first.lines.items) ∷ (a.second.lane, map line_read a.second.lines.items) ∷ []) }
