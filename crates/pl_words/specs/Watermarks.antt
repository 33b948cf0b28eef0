-- What contracts see of a watermark and its seats, and what a look does to a reader's.
use Rattle.std.specs.Prelude.{◌≡◌, ℕ, ◌+◌, ◌-◌, ◌<◌, ◌≤◌, ◌==◌, ◌&&◌, ◌||◌, Bool, not, nat_lt, true, false}
use Rattle.std.specs.Bool.{beq}
use Rattle.pl_words.specs.declared.watermark.TheConstants.{MAX_SETS}
use Rattle.pl_words.specs.Names.{Name}

-- which watermark it is
pub record WatermarkView : Type 0 where
  pub name : Name

-- The head's seat. It says whose it is, the two marks, how often it has set the mark, and what it set last.
pub record HeadSeatView : Type 0 where
  pub name : Name
  pub low : ℕ
  pub high : ℕ
  pub sets : ℕ
  pub pending : ℕ
  pub unwritable : Bool

-- A reader's seat of a mark. It says whose it is, the version and the flag that it has seen last, and the steps that
-- it made on the word.
pub record ReadSeatView : Type 0 where
  pub name : Name
  pub version : ℕ
  pub unwritable : Bool
  pub steps : ℕ

-- above the high mark only unwritable, below the low one only writable (Channel.isWritable)
abbrev pub IsMarked : ℕ → ℕ → ℕ → Bool → Type 0
IsMarked low high pending unwritable = (high < pending → unwritable ≡ true) × (pending < low → unwritable ≡ false)

-- a head's seat that has set nothing
abbrev pub new_head_seat : Name → ℕ → ℕ → HeadSeatView
new_head_seat name low high = record { name = name; low = low; high = high; sets = 0; pending = 0; unwritable = false }

-- it was not set so last, and may be set once more
abbrev pub is_news : HeadSeatView → ℕ → Bool → Bool
is_news s pending unwritable = (not (s.pending == pending) || not (beq s.unwritable unwritable)) && nat_lt s.sets (MAX_SETS - 1)

-- a reader's seat that has looked at no mark
abbrev pub new_reader : Name → ReadSeatView
new_reader name = record { name = name; version = 0; unwritable = false; steps = 0 }

-- One look at the mark. It finds no older version than the seat has seen, and the same version with the same flag.
pub record Looks (s t : ReadSeatView) : Type 0 where
  pub same : t ≡ record s { version = t.version; unwritable = t.unwritable; steps = s.steps + 1 }
  pub later : s.version ≤ t.version
  pub still : s.version ≡ t.version → s.unwritable ≡ t.unwritable
