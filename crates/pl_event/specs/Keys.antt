-- The names of totals.
use Rattle.std.specs.Prelude.{ℕ, List, length, Bool, ◌&&◌, ◌||◌, not, ◌==◌, nat_le}
use Rattle.std.specs.List.{list_all}
use Rattle.std.specs.Char.{is_ascii_lowercase, is_ascii_digit}
use Rattle.pl_event.specs.declared.keys.TheConstants.{MAX_KEY_LENGTH}

-- a to z, or 0 to 9
abbrev pub is_key_byte : ℕ → Bool
is_key_byte byte = is_ascii_lowercase byte || is_ascii_digit byte

-- A text may name a total. It has 1 to MAX_KEY_LENGTH such bytes.
abbrev pub is_key : List ℕ → Bool
is_key name = not (length name == 0) && nat_le (length name) MAX_KEY_LENGTH && list_all is_key_byte name
