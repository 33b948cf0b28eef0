-- Whose a seat is, and what all seats of an object know.
use Rattle.std.specs.Prelude.{◌≡◌, ℕ, List}
use mathlib.Core.Option.{some}
use lib.ListN.{get_elem?}
use Rattle.atomic_table.specs.Seated.{TableId}

-- what no two shared objects have in common
abbrev pub Name : Type 0
Name = TableId

-- some seat has these notes
abbrev pub IsAmong : {V : Type 0} → List V → V → Type 0
IsAmong notes v = (by : ℕ) × (get_elem? notes by ≡ some v)
