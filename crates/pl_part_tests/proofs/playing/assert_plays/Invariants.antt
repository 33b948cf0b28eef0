use Rattle.pl_part_tests.specs.SampleParts.{IsReady}
use Rattle.pl_part_tests.proofs.playing.assert_plays.Given as goal

-- ready all the time
abbrev pub invariant-loop-rows : goal.invariant-loop-rows
invariant-loop-rows g l = IsReady l.part l.work
