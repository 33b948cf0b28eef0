use Rattle.std.proofs.Common.{◌≡◌, take}
use Rattle.pl_text.specs.MovesTexts.{moves_said}
use Rattle.pl_text.proofs.moves_text.copies.count_of.Given as goal

abbrev pub invariant-loop-term : goal.invariant-loop-term
invariant-loop-term l = l.count ≡ moves_said (take l.term-index l.terms)
