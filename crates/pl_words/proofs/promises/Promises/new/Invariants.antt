use Rattle.std.proofs.Common.{◌≡◌, ◌-◌, ◌≤◌, All, [], length}
use Rattle.std.specs.Vec.{vec_capacity}
use Rattle.pl_words.specs.PromiseRule.{row_notes}
use Rattle.pl_words.specs.PromiseViews.{new_settler, new_reader}
use Rattle.pl_words.proofs.promises.Promises.new.Given as goal

-- This many settlers' seats are dealt, for each of which there is room, and the first seat stands for the others.
abbrev pub invariant-loop-number : goal.invariant-loop-number
invariant-loop-number l =
    (l.first.table_id ≡ l.words.shared.table_id) × (l.first.me ≡ (row_notes l.words.shared.key.limit l.words.shared.key.settlers (l.fn.settlers - l.number), [])) × (length l.settle_seats.items ≡ l.number)
    × (l.fn.settlers ≤ vec_capacity l.settle_seats) × All (λ s. s ≡ new_settler l.words.shared.table_id l.words.shared.key.limit l.words.shared.key.settlers) l.settle_seats.items

-- The same of readers' seats. The first seat keeps no right.
abbrev pub invariant-loop-number-2 : goal.invariant-loop-number-2
invariant-loop-number-2 l =
    (l.first.table_id ≡ l.words.shared.table_id) × (l.first.me ≡ (row_notes l.words.shared.key.limit l.words.shared.key.settlers 0, [])) × (length l.read_seats.items ≡ l.number)
    × (l.fn.readers ≤ vec_capacity l.read_seats) × All (λ s. s ≡ new_reader l.words.shared.table_id l.words.shared.key.limit) l.read_seats.items
