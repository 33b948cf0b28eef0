use Rattle.pl_tool.proofs.LastLine.{IsWrittenUpTo}
use Rattle.pl_tool.proofs.program.last_line.write_line.Given as goal

abbrev pub invariant-loop : goal.invariant-loop
invariant-loop g l = IsWrittenUpTo l.rest l.fn.line (g.E.Write.contents l.fn.err) (g.E.Write.contents l.err)
