use Rattle.pl_post_tests.proofs.TurnLemmas.{all-carry}
use Rattle.pl_post_tests.proofs.tests.post_tests.four_senders.Goals as goal

pub four_by-requires-clause-world : goal.four_by-requires-clause-world
four_by-requires-clause-world g c κs within = all-carry
