use Rattle.pl_post_tests.proofs.FeedingLemmas.{carries-first, carries-second}
use Rattle.pl_post_tests.proofs.tests.post_tests.post_closes_under_load.Goals as goal

pub two_by-requires-clause-first : goal.two_by-requires-clause-first
two_by-requires-clause-first c κs within = carries-first 999

pub two_by-requires-clause-second : goal.two_by-requires-clause-second
two_by-requires-clause-second c κs within = carries-second 999
