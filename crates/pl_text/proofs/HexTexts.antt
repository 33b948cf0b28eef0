-- Hex, some bytes at a time.
use Rattle.std.proofs.Common.{◌≡◌, ℕ, ◌/◌, ◌%◌, ◌<◌, List, [], ◌∷◌, ◌++◌, length, slice_index, arith, refl, ap, sym, ◌∙◌}
use Rattle.hex.specs.Hex.{encode_lower, encode_with, lower_digits}
use Rattle.pl_text.specs.ReportTexts.{hex_text}

pub encode_lower-nil : encode_lower [] ≡ []
unfolding encode_with
encode_lower-nil = refl

encode_lower-append : (xs ys : List ℕ) → encode_lower (xs ++ ys) ≡ encode_lower xs ++ encode_lower ys
unfolding encode_with
encode_lower-append [] ys = refl
encode_lower-append (x ∷ xs) ys =
    ap (λ (t : List ℕ). slice_index lower_digits (x / 16) ∷ slice_index lower_digits (x % 16) ∷ t) (encode_lower-append xs ys)

-- the hex of what comes first, and then that of the rest
pub encode_lower-parts : (all some rest : List ℕ) → all ≡ some ++ rest → encode_lower some ++ encode_lower rest ≡ encode_lower all
encode_lower-parts all some rest parts = sym (encode_lower-append some rest) ∙ ap encode_lower (sym parts)

pub hex_text-filled : (bytes : List ℕ) → 0 < length bytes → hex_text bytes ≡ encode_lower bytes
hex_text-filled [] h = absurd (omega arith)
hex_text-filled (b ∷ bs) h = refl
