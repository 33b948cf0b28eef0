use Rattle.std.proofs.Common.{◌≡◌, ◌-◌, ◌≤◌, All, [], length}
use Rattle.std.specs.Vec.{vec_capacity}
use Rattle.pl_words.specs.declared.status.Status.TheVariants.{Accepting}
use Rattle.pl_words.specs.AdmissionRule.{owner_notes}
use Rattle.pl_words.specs.Admissions.{new_send_seat}
use Rattle.pl_words.proofs.admission.Admission.new.Given as goal

-- This many seats are dealt, for each of which there is room, and the owner stands for the others.
abbrev pub invariant-loop-number : goal.invariant-loop-number
invariant-loop-number l =
    (l.owner.table_id ≡ l.table.shared.table_id) × (l.owner.me ≡ (owner_notes (l.fn.senders - l.number) Accepting 0 0 0, [])) × (length l.seats.items ≡ l.number)
    × (l.fn.senders ≤ vec_capacity l.seats) × All (λ s. s ≡ new_send_seat l.table.shared.table_id s.number) l.seats.items
