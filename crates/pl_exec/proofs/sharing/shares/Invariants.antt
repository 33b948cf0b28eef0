use Rattle.std.proofs.Common.{◌≡◌, ◌++◌, length}
use Rattle.std.specs.Vec.Iter.{into_iter_items}
use Rattle.pl_exec.specs.Sharing.{AreShared, rows_in}
use Rattle.pl_exec.proofs.SharesMade.{AreLeftFor}
use Rattle.pl_exec.proofs.sharing.shares.Given as goal

-- The first executors have their shares.
abbrev pub invariant-loop-here : goal.invariant-loop-here
invariant-loop-here g l = record {
  rest : l.yielded ++ into_iter_items l.here-iterator ≡ l.fn.rows.items;
  shared : AreShared g.S.Stage.meaning g.S.Stage.stands_after g.T.Transport.state l.fn.parts.items l.words l.fn.seats.items (rows_in l.yielded) l.all.items;
  left : AreLeftFor l.fn.parts.items l.fn.seats.items (length l.yielded) l.left.items l.seats.items;
}
