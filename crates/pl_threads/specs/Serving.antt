-- How often a channel was read and written by its head.
use Rattle.std.specs.Prelude.{◌≡◌, ℕ, ◌+◌, ◌≤◌, Bool, true, false}
use Rattle.pl_flow.specs.declared.head_moves.HeadMove.{HeadMove}
use Rattle.pl_flow.specs.declared.head_moves.HeadMove.TheVariants.{Read, Out}

-- How often a channel was served. It counts the read steps that were made, and the calls of the transport.
pub record Served : Type 0 where
  pub reads : ℕ
  pub calls : ℕ

-- By channel, before and after.
module _ (before after : ℕ → Served) where
  -- no channel was read or written
  abbrev pub ServesNone : Type 0
  ServesNone = (c : ℕ) → after c ≡ before c

  -- none was read more than once, and none was written
  abbrev pub ReadsAtMostOnce : Type 0
  ReadsAtMostOnce = (c : ℕ) → ((after c).reads ≤ (before c).reads + 1) × ((after c).calls ≡ (before c).calls)

  -- none was written more than once, and none was read
  abbrev pub WritesAtMostOnce : Type 0
  WritesAtMostOnce = (c : ℕ) → ((after c).reads ≡ (before c).reads) × ((after c).calls ≤ (before c).calls + 1)

  -- no channel was read or written more than once
  abbrev pub ServesAtMostOnce : Type 0
  ServesAtMostOnce = (c : ℕ) → ((after c).reads ≤ (before c).reads + 1) × ((after c).calls ≤ (before c).calls + 1)

-- by one kind of move none was served more than once, and by the other none
abbrev pub MovesAtMostOnce : HeadMove → (before after : ℕ → Served) → Type 0
MovesAtMostOnce Read before after = ReadsAtMostOnce before after
MovesAtMostOnce Out before after = WritesAtMostOnce before after

-- Whether a channel that is served is asked for a move: for a read step, where it is to read, and for a write.
abbrev pub is_asked : Bool → HeadMove → Bool
is_asked reads Read = reads
is_asked reads Out = true

-- by these moves none was served more than once
abbrev pub ServesBy : Bool → (before after : ℕ → Served) → Type 0
ServesBy true before after = ServesAtMostOnce before after
ServesBy false before after = WritesAtMostOnce before after
