-- A row of channels, as those that have a node on an executor; and what there is of each, by channel.
use Rattle.std.specs.Prelude.{◌≡◌, ℕ, ◌<◌, ◌≤◌, ◌==◌, List, All, length, map, get_or, slice_get, Option}
use Rattle.std.specs.List.{enumerate_from, position_or_len}
use Rattle.std.specs.Option.{option_map_or}

-- the position of a channel in a row; how many the row has, where it is none of these
abbrev pub row_position : List ℕ → ℕ → ℕ
row_position row c = position_or_len (λ k. k == c) row

-- what stands at the position of a channel
abbrev pub held_for : {A : Type 0} → List ℕ → List A → ℕ → Option A
held_for row ys c = slice_get ys (row_position row c)

-- by channel what stands here; to that of a channel in the row what stands at its position is added
abbrev pub by_channel : {A B : Type 0} → (A → B → A) → List ℕ → List B → List A → List A
by_channel add row ys xs = map (λ z. option_map_or (add z.1) (held_for row ys z.0) z.1) (enumerate_from 0 xs)

-- Some of so many channels, each once.
pub record IsChannelRow (channels : ℕ) (row : List ℕ) : Type 0 where
  pub few : length row ≤ channels
  pub there : All (λ c. c < channels) row
  pub once : (k : ℕ) → k < length row → row_position row (get_or row k 0) ≡ k
