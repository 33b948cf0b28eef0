use Rattle.std.proofs.Common.{◌≡◌, length}
use Rattle.std.specs.Prelude.{All}
use Rattle.pl_exec.specs.Opening.{no_ways}
use Rattle.pl_exec.proofs.opening.no_ways.Given as goal

abbrev pub invariant-loop-inbox : goal.invariant-loop-inbox
invariant-loop-inbox g l = record {
  count : length l.rows.items ≡ l._inbox-index;
  none : All (λ ways. ways ≡ no_ways (length l.inboxes)) l.rows.items;
}
