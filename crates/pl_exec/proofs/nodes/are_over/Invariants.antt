use Rattle.std.specs.Prelude.{All, take}
use Rattle.pl_exec.specs.ExecutorNodes.{IsPartOver}
use Rattle.pl_exec.proofs.nodes.are_over.Given as goal

-- The first of these are over.
abbrev pub invariant-loop-part : goal.invariant-loop-part
invariant-loop-part g l = All (IsPartOver g.T.Transport.state) (take l.part-index l.parts)
