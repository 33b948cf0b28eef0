use Rattle.std.proofs.Common.{◌≡◌, ◌∷◌, take, string_bytes}
use Rattle.std.specs.List.{All}
use Rattle.pl_text.specs.MovesTexts.{IsSayable, terms_text}
use Rattle.pl_text.proofs.moves_text.printing.terms_of.Given as goal

abbrev pub invariant-loop-step : goal.invariant-loop-step
invariant-loop-step l = record {
  bytes : string_bytes l.text ≡ terms_text (l.fn.first ∷ take l.step-index l.rest);
  sayable : All IsSayable (take l.step-index l.rest);
}
