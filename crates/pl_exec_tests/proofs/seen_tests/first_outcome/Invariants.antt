use Rattle.pl_exec.specs.SessionWords.{IsReaderOf}
use Rattle.pl_exec_tests.proofs.seen_tests.first_outcome.Given as goal

-- The reader is still one of these words.
abbrev pub invariant-looks : goal.invariant-looks
invariant-looks l = IsReaderOf l.words l.reader
