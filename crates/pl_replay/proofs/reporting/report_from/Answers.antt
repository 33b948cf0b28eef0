use Rattle.std.proofs.Common.{rules}
use Rattle.std.proofs.lemmas.Result.{IfOk-weaker}
use Rattle.pl_replay.specs.Reported.{HasEnds}
use Rattle.pl_replay.proofs.ReportLists.{reports_its_plan}
use Rattle.pl_replay.proofs.reporting.report_from.Goals as goal

pub returns-clause-reports : goal.returns-clause-reports
returns-clause-reports g c =
    let ends : HasEnds c.args.part = record { tail = c.unwrap.result; head = c.unwrap-2.result; has_tail = search rules; has_head = search rules } in
    IfOk-weaker c.into_report.result _ _ (λ report reports. record { ends = ends; reports = reports }) c.into_report.ensures.ends

pub returns-clause-planned : goal.returns-clause-planned
returns-clause-planned g c =
    let ends : HasEnds c.args.part = record { tail = c.unwrap.result; head = c.unwrap-2.result; has_tail = search rules; has_head = search rules } in
    IfOk-weaker c.into_report.result _ _ (reports_its_plan g.T.Transport.state c.args.part ends) c.into_report.ensures.planned
