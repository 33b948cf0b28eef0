use Rattle.pl_post_tests.proofs.FeedingLemmas.{carries-first, carries-second, carries-third}
use Rattle.pl_post_tests.proofs.tests.post_tests.three_feed_while_closing.Goals as goal

pub three_by-requires-clause-first : goal.three_by-requires-clause-first
three_by-requires-clause-first c κs within = carries-first 999

pub three_by-requires-clause-second : goal.three_by-requires-clause-second
three_by-requires-clause-second c κs within = carries-second 999

pub three_by-requires-clause-third : goal.three_by-requires-clause-third
three_by-requires-clause-third c κs within = carries-third 999
