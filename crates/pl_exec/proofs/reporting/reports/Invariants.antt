use Rattle.std.proofs.Common.{◌≡◌, ◌++◌}
use Rattle.std.specs.List.{AllZip}
use Rattle.std.specs.Vec.Iter.{into_iter_items}
use Rattle.pl_exec.specs.Reported.{IsFinalReport}
use Rattle.pl_exec.proofs.reporting.reports.Given as goal

-- The channels so far are reported.
abbrev pub invariant-loop-found : goal.invariant-loop-found
invariant-loop-found g l = record {
  rest : l.yielded ++ into_iter_items l.found-iterator ≡ l.fn.ends.items;
  reported : AllZip (IsFinalReport g.T.Transport.state) l.yielded l.reports.items;
}
