use Rattle.std.proofs.Common.{◌∙◌, List, ℕ, ◌∷◌, ◌++◌, string_bytes, ap}
use Rattle.pl_text.proofs.moves_text.printing.add_term.Goals as goal

pub returns-clause-bytes : goal.returns-clause-bytes
returns-clause-bytes c = c.in_ok-write.ensures.bytes ∙ ap (λ (term : List ℕ). string_bytes c.args.text.now ++ 32 ∷ term) c.new-term.ensures.text
