use Rattle.pl_part_tests.specs.SampleParts.{IsReady}
use Rattle.pl_part_tests.proofs.playing.run.Given as goal

-- ready all the time
abbrev pub invariant-loop : goal.invariant-loop
invariant-loop l = IsReady l.part l.work
