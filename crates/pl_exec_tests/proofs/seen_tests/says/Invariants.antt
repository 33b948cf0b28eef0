use Rattle.pl_exec.specs.SessionWords.{IsReaderOf}
use Rattle.pl_exec_tests.proofs.seen_tests.says.Given as goal

-- The reader is still one of these words.
abbrev pub invariant-writes : goal.invariant-writes
invariant-writes l = IsReaderOf l.words l.reader
