-- The ways whose queue a `hand` found full.
use Rattle.std.specs.Prelude.{◌≡◌, ℕ, ◌<◌, ◌==◌, Bool, true, List}
use Rattle.std.specs.List.{list_any, IsDistinct}

-- Which were tried, of how many.
pub record TriesView : Type 0 where
  pub tried : List ℕ
  pub count : ℕ

abbrev pub is_tried : List ℕ → ℕ → Bool
is_tried tried way = list_any (λ t. way == t) tried

-- None is noted twice, and each is there.
pub record IsTries (v : TriesView) : Type 0 where
  pub distinct : IsDistinct (λ a b. a == b) v.tried
  pub there : (way : ℕ) → is_tried v.tried way ≡ true → way < v.count
