use Rattle.pl_post_tests.specs.Feeding.{three_lanes}
use Rattle.pl_post_tests.proofs.tests.post_tests.post_closes_under_load.Given as goal

abbrev pub ghosts-two_by : goal.ghosts-two_by
ghosts-two_by g a = record { world = three_lanes 999 }
