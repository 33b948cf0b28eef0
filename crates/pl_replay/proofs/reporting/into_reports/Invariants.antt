use Rattle.std.specs.List.{AllZip}
use Rattle.pl_replay.specs.Reported.{IsPartReport, ReportsItsPlan}
use Rattle.pl_replay.proofs.reporting.into_reports.Given as goal

-- The parts so far are reported.
abbrev pub invariant-loop-part : goal.invariant-loop-part
invariant-loop-part g l = record {
  reported : AllZip (IsPartReport g.T.Transport.state) l.yielded l.moved.items;
  planned : AllZip (ReportsItsPlan g.T.Transport.state) l.yielded l.moved.items;
}
