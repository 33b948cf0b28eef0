use Rattle.std.proofs.Common.{rules, ◌≡◌, ◌++◌, ℕ, decimal, sym}
use Rattle.std.specs.Prelude.{encode_utf8}
use Rattle.std.proofs.lemmas.Str.{encode_same}
use Rattle.pl_world.specs.declared.moves.Move.{Move}
use Rattle.pl_world.specs.declared.moves.Move.TheVariants.{Read, Task, Hand, Out}
use Rattle.pl_world.specs.Movers.{mover_of}
use Rattle.pl_text.specs.MovesTexts.{move_text}
use Rattle.pl_text.proofs.moves_text.terms.move_of.Goals as goal

-- a move begins with one of the four letters
begins : (step : Move) (letter : ℕ) → (letter ≡ 82 → ⊥) → (letter ≡ 84 → ⊥) → (letter ≡ 72 → ⊥) → (letter ≡ 79 → ⊥) → move_text step ≡ encode_utf8 letter ++ decimal (mover_of step) → ⊥
unfolding lib.Utf8.encode
begins (Read n) letter read task hand out e = read (encode_same letter 82 (decimal n) (decimal n) (sym e)).0
begins (Task n) letter read task hand out e = task (encode_same letter 84 (decimal n) (decimal n) (sym e)).0
begins (Hand n) letter read task hand out e = hand (encode_same letter 72 (decimal n) (decimal n) (sym e)).0
begins (Out n) letter read task hand out e = out (encode_same letter 79 (decimal n) (decimal n) (sym e)).0

pub returns-in_default-clause-none : goal.returns-in_default-clause-none
returns-in_default-clause-none c step = begins step c.args.letter (search rules) (search rules) (search rules) (search rules)
