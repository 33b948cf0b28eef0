use Rattle.pl_post_tests.specs.Feeding.{three_lanes}
use Rattle.pl_post_tests.proofs.tests.post_tests.three_feed_while_closing.Given as goal

abbrev pub ghosts-three_by : goal.ghosts-three_by
ghosts-three_by g a = record { world = three_lanes 999 }
