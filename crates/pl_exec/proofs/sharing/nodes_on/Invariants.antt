use Rattle.pl_exec.proofs.SharesMade.{AreTaken, HasFirst}
use Rattle.pl_exec.proofs.sharing.nodes_on.Given as goal

-- it has its shares of the first channels of its row
abbrev pub invariant-loop-position : goal.invariant-loop-position
invariant-loop-position g l = record {
  has : HasFirst g.S.Stage.meaning g.S.Stage.stands_after g.T.Transport.state l.fn.left.items l.words l.fn.seats.items l.number l.fn.here.items l.position l.nodes;
  taken : AreTaken l.number l.fn.left.items l.fn.seats.items l.fn.here.items l.position l.left.items l.seats.items;
}
