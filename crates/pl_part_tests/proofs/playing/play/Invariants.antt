use Rattle.pl_part_tests.specs.SampleParts.{IsReady}
use Rattle.pl_part_tests.proofs.playing.play.Given as goal

-- ready all the time
abbrev pub invariant-loop-row : goal.invariant-loop-row
invariant-loop-row g l = IsReady l.part l.work
