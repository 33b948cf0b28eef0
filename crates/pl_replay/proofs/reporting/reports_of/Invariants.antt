use Rattle.std.proofs.Common.{take}
use Rattle.std.specs.List.{AllZip}
use Rattle.pl_replay.specs.Reported.{IsPartReport, ReportsItsPlan}
use Rattle.pl_replay.proofs.reporting.reports_of.Given as goal

-- The parts so far are reported.
abbrev pub invariant-loop-part : goal.invariant-loop-part
invariant-loop-part g l = record {
  reported : AllZip (IsPartReport g.T.Transport.state) (take l.part-index l.parts) l.reports.items;
  planned : AllZip (ReportsItsPlan g.T.Transport.state) (take l.part-index l.parts) l.reports.items;
}
