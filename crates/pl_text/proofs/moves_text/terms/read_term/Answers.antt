use Rattle.std.proofs.Common.{◌≡◌, ◌++◌, ℕ, List, Option, decimal, refl, sym, ◌∙◌}
use Rattle.std.specs.Prelude.{encode_utf8}
use Rattle.std.proofs.lemmas.Str.{encode_same}
use Rattle.pl_world.specs.declared.moves.Move.{Move}
use Rattle.pl_world.specs.declared.moves.Move.TheVariants.{Read, Task, Hand, Out}
use Rattle.pl_world.specs.Movers.{mover_of}
use Rattle.pl_text.specs.MovesTexts.{count_text, move_text}
use Rattle.pl_text.proofs.moves_text.terms.read_term.Goals as goal

-- after its letter a term is its number and its count
after_letter : (step : Move) (count : Option ℕ) (letter : ℕ) (rest : List ℕ) → encode_utf8 letter ++ rest ≡ move_text step ++ count_text count
    → (move_text step ≡ encode_utf8 letter ++ decimal (mover_of step)) × (rest ≡ decimal (mover_of step) ++ count_text count)
unfolding lib.Utf8.encode
after_letter (Read n) count letter rest e = let same = encode_same letter 82 rest (decimal n ++ count_text count) e in (rw same.0 refl, same.1)
after_letter (Task n) count letter rest e = let same = encode_same letter 84 rest (decimal n ++ count_text count) e in (rw same.0 refl, same.1)
after_letter (Hand n) count letter rest e = let same = encode_same letter 72 rest (decimal n ++ count_text count) e in (rw same.0 refl, same.1)
after_letter (Out n) count letter rest e = let same = encode_same letter 79 rest (decimal n ++ count_text count) e in (rw same.0 refl, same.1)

pub returns-in_err-number-clause-none : goal.returns-in_err-number-clause-none
returns-in_err-number-clause-none c = rw c.from_residual-in_err-number.ensures (λ w fits e.
    let after = after_letter w.step w.count c.in_ok-letter.letter _ (sym c.in_ok-letter.ensures.steps.0 ∙ c.chars-letters.ensures.rest ∙ e) in
    c.in_err-number.ensures.none (mover_of w.step) w.count fits (c.as_str.ensures ∙ after.1))

pub returns-in_err-step-clause-none : goal.returns-in_err-step-clause-none
returns-in_err-step-clause-none c = rw c.from_residual-in_err-step.ensures (λ w fits e.
    let after = after_letter w.step w.count c.in_ok-letter.letter _ (sym c.in_ok-letter.ensures.steps.0 ∙ c.chars-letters.ensures.rest ∙ e) in
    c.in_err-step.ensures.none w.step after.0)
