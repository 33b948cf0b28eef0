use Rattle.std.proofs.Common.{◌≡◌, take}
use Rattle.pl_text.specs.MovesTexts.{moves_of_terms}
use Rattle.pl_text.proofs.moves_text.copies.moves_of_terms.Given as goal

abbrev pub invariant-loop-term : goal.invariant-loop-term
invariant-loop-term l = l.moves.items ≡ moves_of_terms (take l.term-index l.terms)
