use Rattle.pl_replay.specs.Reported.{IsPartReport, ReportsItsPlan}
use Rattle.pl_replay.proofs.ReportLists.{zip_more, zip_whole, all_planned}
use Rattle.pl_replay.proofs.reporting.reports_of.Goals as goal

pub loop-part-preserved : goal.loop-part-preserved
loop-part-preserved g c =
    let so_far = c.loop-part in
    let report = c.in_ok-report_of in
    record {
      reported = zip_more (IsPartReport g.T.Transport.state) c.args.parts.now so_far.part-index c.part-item.result so_far.reports.items report.field-0 c.push.new.self.items c.loop-part-test.true c.part-item.is c.in_ok-push.ensures.items so_far.invariant.reported report.ensures.reports;
      planned = zip_more (ReportsItsPlan g.T.Transport.state) c.args.parts.now so_far.part-index c.part-item.result so_far.reports.items report.field-0 c.push.new.self.items c.loop-part-test.true c.part-item.is c.in_ok-push.ensures.items so_far.invariant.planned report.ensures.planned;
    }

pub returns-clause-planned : goal.returns-clause-planned
returns-clause-planned g c =
    let state = g.T.Transport.state in
    let so_far = c.loop-part in
    λ plan. all_planned state plan c.args.parts.now c.from_vec.result
    (zip_whole (ReportsItsPlan state) c.args.parts.now so_far.part-index so_far.reports.items c.from_vec.result c.loop-part-test.false c.from_vec.ensures so_far.invariant.planned)
