use Rattle.std.proofs.Common.{◌≡◌, map}
use Rattle.pl_world.specs.Plans.{channel_planned}
use Rattle.pl_world.specs.Reports.{whole_report}
use Rattle.pl_world.proofs.composing.whole_reports.Given as goal

-- the whole reports so far
abbrev pub invariant-loop-record : goal.invariant-loop-record
invariant-loop-record g l = l.reports.items ≡ map whole_report (map (channel_planned g.S.Stage.meaning g.T.Transport.state) l.yielded)
