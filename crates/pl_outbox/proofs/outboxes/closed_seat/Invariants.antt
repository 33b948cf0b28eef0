use Rattle.std.proofs.Common.{◌≡◌}
use Rattle.std.specs.Vec.Iter.{into_iter_items}
use Rattle.pl_outbox.specs.OutboxViews.{closed_seat}
use Rattle.pl_outbox.proofs.outboxes.closed_seat.Given as goal

-- it is among those that are left
abbrev pub invariant-loop-outbox : goal.invariant-loop-outbox
invariant-loop-outbox g l = closed_seat (into_iter_items l.outbox-iterator) ≡ closed_seat l.fn.outboxes.items
