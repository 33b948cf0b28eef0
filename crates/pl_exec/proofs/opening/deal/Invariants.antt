use Rattle.std.proofs.Common.{map}
use Rattle.pl_exec.specs.Opening.{inbox_view, CanDeal, LaneTable}
use Rattle.pl_exec.proofs.WaysDealt.{Deals}
use Rattle.pl_exec.proofs.opening.deal.Given as goal

abbrev pub invariant-loop-origin : goal.invariant-loop-origin
invariant-loop-origin g l =
    (lanes : LaneTable) → CanDeal g.M.Mailbox.ends lanes (map inbox_view l.inboxes) l.target l.fn.column l.places l.fn.rows.items
    → Deals g.M.Mailbox.ends lanes (map inbox_view l.inboxes) l.target l.places (record { origins = l.origin-iterator.a.a.rest.items; senders = l.origin-iterator.a.b.rest.items; seats = l.origin-iterator.b.rest.items }) l.rows.items
