use Rattle.std.proofs.Common.{◌≤◌, ℕ, List, ◌∷◌, length, string_bytes, sym, subst}
use Rattle.std.specs.Result.{IfOk}
use Rattle.pl_world.specs.declared.moves.Move.{Move}
use Rattle.pl_text.specs.MovesTexts.{MeansMoves}
use Rattle.pl_text.specs.declared.moves_text.TheConstants.{MAX_MOVES}
use Rattle.pl_text.proofs.MovesPrinted.{answer-means, none-means}
use Rattle.pl_text.proofs.moves_text.printing.moves_as_text.Goals as goal

pub returns-in-None : goal.returns-in-None
returns-in-None c = λ few. subst (λ (text : List ℕ). MeansMoves text c.args.moves.now) (sym c.new.ensures.bytes) (none-means c.args.moves.now c.in-None.ensures.cases)

pub returns-in-Some : goal.returns-in-Some
returns-in-Some c =
    subst (λ (moves : List Move). IfOk c.terms_of.result (λ text. length moves ≤ MAX_MOVES → MeansMoves (string_bytes text) moves)) (sym c.in-Some.ensures.cases.0)
    (answer-means string_bytes c.terms_of.result (c.in-Some.first.now ∷ c.in-Some.rest.now) c.terms_of.ensures.bytes c.terms_of.ensures.sayable)
