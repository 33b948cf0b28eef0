-- Marks with their lane of flags, and the list of changes after which they may stand.
use Rattle.std.specs.Prelude.{◌≡◌, ℕ, ◌+◌, List, ◌++◌, length, Bool, true, if◌then◌else◌}
use Rattle.pl_context.specs.declared.ports.Port.{Port}
use Rattle.pl_context.specs.OutputsViews.{OutputsView}
use Rattle.pl_head.specs.Marks.{Change, pending_after, sizes_added, removed_by, is_unwritable, flags}
use Rattle.pl_head.specs.FlagLanes.{FlagsPass}
use Rattle.pl_head.specs.declared.marks.Marks.{Marks}

-- While the lane has not stopped, all flags of these changes were sent, and no others.
pub record Watermarks (low high pending : ℕ) (unwritable : Bool) (port : Port) (cs : List Change) : Type 0 where
  pub pending_is : pending ≡ pending_after cs
  -- what was added less what was removed
  pub exact : pending + removed_by cs ≡ sizes_added cs
  pub unwritable_is : unwritable ≡ is_unwritable low high cs
  pub sent : port.is_open ≡ true → port.made ≡ length (flags low high cs)

-- More changes send the flags that they add. Those come after the flags of the changes before, in order.
pub record SendsFlags (low high : ℕ) (cs more : List Change) (p : Port) (before : OutputsView) (p' : Port) (after : OutputsView) : Type 0 where
  pub added : List Bool
  pub flags_are : flags low high (cs ++ more) ≡ flags low high cs ++ added
  pub passes : FlagsPass added p before p' after

abbrev pub MarksStand : Marks → List Change → Type 0
MarksStand m cs = Watermarks m.low m.high m.pending m.is_unwritable m.flags cs

-- a bound on the number of flags that grows only where a size is added
abbrev pub flag_bound : Marks → ℕ
flag_bound m = m.flags.made + (if m.is_unwritable then 1 else 0)
