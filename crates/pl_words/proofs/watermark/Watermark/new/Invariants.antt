use Rattle.std.proofs.Common.{◌≡◌, ◌≤◌, All, false, [], length}
use Rattle.std.specs.Vec.{vec_capacity}
use Rattle.pl_words.specs.WatermarkRule.{head_notes}
use Rattle.pl_words.specs.Watermarks.{new_reader}
use Rattle.pl_words.proofs.watermark.Watermark.new.Given as goal

-- This many seats are dealt, for each of which there is room.
abbrev pub invariant-loop-number : goal.invariant-loop-number
invariant-loop-number l =
    (l.head.table_id ≡ l.table.shared.table_id) × (l.head.me ≡ (head_notes 0 false, [])) × (length l.seats.items ≡ l.number) × (l.fn.readers ≤ vec_capacity l.seats)
    × All (λ s. s ≡ new_reader l.table.shared.table_id) l.seats.items
