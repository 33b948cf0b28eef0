use Rattle.pl_post_tests.specs.Turns.{all_carry}
use Rattle.pl_post_tests.proofs.tests.post_tests.four_senders.Given as goal

abbrev pub ghosts-four_by : goal.ghosts-four_by
ghosts-four_by g a = record { world = all_carry }
