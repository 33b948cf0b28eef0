use Rattle.std.proofs.Common.{◌≡◌, length, map, take}
use Rattle.std.specs.List.{AllByRecursion}
use Rattle.pl_text.specs.MovesTexts.{IsTermWithin, term_text, between_spaces}
use Rattle.pl_text.proofs.moves_text.read_terms.Given as goal

abbrev pub invariant-loop-piece : goal.invariant-loop-piece
invariant-loop-piece l = record {
  texts : map term_text l.terms.items ≡ take (length l.yielded) (between_spaces l.text);
  fit : AllByRecursion IsTermWithin l.terms.items;
}
