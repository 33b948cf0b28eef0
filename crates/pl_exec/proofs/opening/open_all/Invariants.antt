use Rattle.std.proofs.Common.{◌≡◌, ◌++◌, length, map}
use Rattle.std.specs.Prelude.{All}
use Rattle.std.specs.Vec.Iter.{into_iter_items}
use Rattle.pl_exec.specs.Opening.{inbox_view, lanes_in, AreAllWays, AreOpened}
use Rattle.pl_exec.proofs.opening.open_all.Given as goal

abbrev pub invariant-loop-ways : goal.invariant-loop-ways
invariant-loop-ways g l = record {
  table : AreAllWays (lanes_in l.fn.lanes.items) (l.yielded ++ into_iter_items l.ways-iterator);
  count : length l.inboxes.items ≡ length l.yielded;
  opened : AreOpened g.M.Mailbox.ends (lanes_in l.fn.lanes.items) (map inbox_view l.inboxes.items) l.ends.items l.columns.items;
  capacity : All (λ i. g.M.Mailbox.ends.capacity_of i.mailbox ≡ l.fn.capacity) l.inboxes.items;
}
