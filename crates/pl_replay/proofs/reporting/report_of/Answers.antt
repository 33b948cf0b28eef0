use Rattle.std.proofs.lemmas.Result.{IfOk-weaker}
use Rattle.pl_replay.specs.Reported.{HasEnds}
use Rattle.pl_replay.proofs.ReportLists.{reports_its_plan}
use Rattle.pl_replay.proofs.reporting.report_of.Goals as goal

pub returns-clause-reports : goal.returns-clause-reports
returns-clause-reports g c =
    let ends : HasEnds c.args.part.now = record { tail = c.ends.result.0.now; head = c.ends.result.1.now; has_tail = c.ends.ensures.tail; has_head = c.ends.ensures.head } in
    IfOk-weaker c.report.result _ _ (λ report reports. record { ends = ends; reports = reports }) c.report.ensures.ends

pub returns-clause-planned : goal.returns-clause-planned
returns-clause-planned g c =
    let ends : HasEnds c.args.part.now = record { tail = c.ends.result.0.now; head = c.ends.result.1.now; has_tail = c.ends.ensures.tail; has_head = c.ends.ensures.head } in
    IfOk-weaker c.report.result _ _ (reports_its_plan g.T.Transport.state c.args.part.now ends) c.report.ensures.planned
