-- Watermark trace: what a list of sizes added and removed makes of two marks (Netty: WriteBufferWaterMark).
use Rattle.std.specs.Prelude.{◌≡◌, ℕ, ◌+◌, ◌-◌, ◌<◌, ◌≤◌, List, [], ◌∷◌, ◌++◌, Bool, true, false, not, if◌then◌else◌, nat_lt, All}

-- a size added to the pending bytes, or removed (WriteBufferWaterMark)
pub data Change : Type 0 where
  Added : ℕ → Change
  Removed : ℕ → Change

abbrev pub changed : ℕ → Change → ℕ
changed pending (Added n) = pending + n
changed pending (Removed n) = pending - n

-- pending after these changes
abbrev pub pending_from : ℕ → List Change → ℕ
pending_from pending [] = pending
pending_from pending (c ∷ cs) = pending_from (changed pending c) cs

-- how many bytes are pending after these changes
abbrev pub pending_after : List Change → ℕ
pending_after cs = pending_from 0 cs

-- pending after each of these changes
abbrev pub levels_from : ℕ → List Change → List ℕ
levels_from pending [] = []
levels_from pending (c ∷ cs) = changed pending c ∷ levels_from (changed pending c) cs

-- how many bytes are pending after each change
abbrev pub levels : List Change → List ℕ
levels cs = levels_from 0 cs

-- the flags: the first level above high says not writable, the first below low after that says writable, and so on
abbrev pub flags_from : ℕ → ℕ → Bool → List ℕ → List Bool
flags_from low high unwritable [] = []
flags_from low high false (p ∷ ps) =
    if nat_lt high p then false ∷ flags_from low high true ps else flags_from low high false ps
flags_from low high true (p ∷ ps) =
    if nat_lt p low then true ∷ flags_from low high false ps else flags_from low high true ps

-- whether the last flag said not writable
abbrev pub unwritable_from : ℕ → ℕ → Bool → List ℕ → Bool
unwritable_from low high unwritable [] = unwritable
unwritable_from low high false (p ∷ ps) = unwritable_from low high (nat_lt high p) ps
unwritable_from low high true (p ∷ ps) = unwritable_from low high (if nat_lt p low then false else true) ps

-- the watermark trace: flags of these changes, by two marks (watermark_law)
abbrev pub flags : ℕ → ℕ → List Change → List Bool
flags low high cs = flags_from low high false (levels cs)

-- the last of these flags said not writable (Channel.isWritable)
abbrev pub is_unwritable : ℕ → ℕ → List Change → Bool
is_unwritable low high cs = unwritable_from low high false (levels cs)

-- ---- the words of the law above the trace

-- flags alternate, and the first says this, if any
abbrev pub AlternateFrom : Bool → List Bool → Type 0
AlternateFrom value [] = Unit {0}
AlternateFrom value (f ∷ fs) = (f ≡ value) × AlternateFrom (not value) fs

-- The flag of a change of writability, if it is one. The change is from this to that, unwritable or not: what a flag
-- says is the contrary, writable or not.
abbrev pub turning : Bool → Bool → List Bool
turning false false = []
turning false true = false ∷ []
turning true false = true ∷ []
turning true true = []

-- Some level was above high, and none since is below low.
pub record IsExceeded (low high : ℕ) (ps : List ℕ) : Type 0 where
  pub before : List ℕ
  pub level : ℕ
  pub since : List ℕ
  pub split : ps ≡ before ++ level ∷ since
  pub above : high < level
  pub none_below : All (λ p. low ≤ p) since

-- how many bytes these changes add
abbrev pub sizes_added : List Change → ℕ
sizes_added [] = 0
sizes_added (Added n ∷ cs) = n + sizes_added cs
sizes_added (Removed n ∷ cs) = sizes_added cs

-- how many bytes these changes remove
abbrev pub removed_by : List Change → ℕ
removed_by [] = 0
removed_by (Added n ∷ cs) = removed_by cs
removed_by (Removed n ∷ cs) = n + removed_by cs

-- no more is ever removed than waits
abbrev pub IsCovered : ℕ → List Change → Type 0
IsCovered pending [] = Unit {0}
IsCovered pending (Added n ∷ cs) = IsCovered (pending + n) cs
IsCovered pending (Removed n ∷ cs) = (n ≤ pending) × IsCovered (pending - n) cs
