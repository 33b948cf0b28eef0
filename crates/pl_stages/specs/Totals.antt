-- Totals: what the service keeps of the additions that it accepted.
use Rattle.std.specs.Prelude.{◌≡◌, ℕ, List, length, Option, Some, None, if◌then◌else◌}
use Rattle.std.specs.HashMap.{get_by, hash_map_len}
use Rattle.std.specs.Str.{bytes_eq}
use Rattle.pl_stages.specs.declared.totals.Totals.{Totals}
use Rattle.pl_stages.specs.Service.{Addition, total_of, is_held, held_keys}

-- the total that is kept for a key
abbrev pub kept_total : List ℕ → Totals → Option ℕ
kept_total key totals = get_by (λ name. bytes_eq key name.items) totals.by_name

-- how many totals are kept
abbrev pub kept_count : Totals → ℕ
kept_count totals = hash_map_len totals.by_name

-- the totals of these additions are kept, for the keys held and no others
pub record KeepsTotals (totals : Totals) (additions : List Addition) : Type 0 where
  pub held : (key : List ℕ) → kept_total key totals ≡ (if is_held key additions then Some (total_of key additions) else None)
  pub count : kept_count totals ≡ length (held_keys additions)
