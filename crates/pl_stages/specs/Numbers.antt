-- Numbers: what an addition adds (docs/FORMATS.md, "Commands").
use Rattle.std.specs.Prelude.{ℕ, List, length, Bool, ◌&&◌, ◌||◌, not, ◌==◌, nat_le, slice_index, Option, Some, None, if◌then◌else◌}
use Rattle.std.specs.List.{list_all}
use Rattle.std.specs.Char.{is_ascii_digit}
use Rattle.std.specs.Str.Parse.{digits_value}
use Rattle.pl_stages.specs.declared.limits.TheConstants.{MAX_DIGITS}

-- 1 to MAX_DIGITS decimal digits, and no leading zero (byte 48) unless it is the only one
abbrev pub is_number : List ℕ → Bool
is_number text =
    (not (length text == 0) && nat_le (length text) MAX_DIGITS && list_all is_ascii_digit text)
    && (not (slice_index text 0 == 48) || length text == 1)

-- the number that a text is
abbrev pub number_in : List ℕ → Option ℕ
number_in text = if is_number text then Some (digits_value 10 text) else None
