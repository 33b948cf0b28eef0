use Rattle.pl_exec.specs.SessionWords.{IsReaderOf}
use Rattle.pl_example_handlers.proofs.recipe.watches.Given as goal

-- the reader is still one of these words
abbrev pub invariant-looks : goal.invariant-looks
invariant-looks l = IsReaderOf l.words l.reader
