-- Where the numbers of a lane stand, by a table of rows.
use Rattle.std.specs.Global.{Vec}
use Rattle.std.specs.Prelude.{◌≡◌, ◌+◌, ◌*◌, ℕ, zero, suc, List, [], ◌∷◌, get_or}
use Rattle.pl_event.specs.declared.envelopes.Kind.{Kind}
use Rattle.pl_event.specs.declared.envelopes.Kind.TheVariants.{Data, Flags}
use Rattle.pl_event.specs.declared.envelopes.Lane.{Lane}

-- the row of a lane: two for each channel
abbrev pub row_by : Kind → ℕ → ℕ
row_by Data channel = 2 * channel
row_by Flags channel = 2 * channel + 1

abbrev pub row_of : Lane → ℕ
row_of lane = row_by lane.kind lane.channel

abbrev pub row_at : List (Vec ℕ) → ℕ → List ℕ
row_at [] n = []
row_at (row ∷ rows) zero = row.items
row_at (row ∷ rows) (suc n) = row_at rows n

-- what the table has for a lane
abbrev pub position_of : List (Vec ℕ) → Lane → ℕ
position_of rows lane = get_or (row_at rows (row_of lane)) lane.hop 0

-- the table has the position of each of these lanes, the first of which stands at n
abbrev pub ArePositions : List (Vec ℕ) → ℕ → List Lane → Type 0
ArePositions rows n [] = Unit {0}
ArePositions rows n (lane ∷ lanes) = (position_of rows lane ≡ n) × ArePositions rows (n + 1) lanes
