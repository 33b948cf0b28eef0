use Rattle.std.proofs.Common.{List, length, sym, subst, ◌∙◌, rules}
use Rattle.std.specs.List.{AllZip}
use Rattle.std.proofs.lemmas.List.{map-id}
use Rattle.std.proofs.lemmas.List.Elements.{All-get_or}
use Rattle.std.proofs.lemmas.Iterator.Adapters.{YieldsList-from_vec}
use Rattle.std.proofs.lemmas.Iterator.Consumers.{YieldsList-turn, YieldsList-end}
use Rattle.pl_part.specs.Parts.{ChannelPartView}
use Rattle.pl_replay.specs.Reported.{HasEnds, IsPartReport, ReportsItsPlan}
use Rattle.pl_event.proofs.Lists.{zip_push}
use Rattle.pl_replay.proofs.ReportLists.{all_planned}
use Rattle.pl_replay.proofs.reporting.into_reports.Goals as goal

pub report_from-requires : goal.report_from-requires
report_from-requires g c =
    let so_far = c.loop-part in
    let yields = YieldsList-from_vec {s = c.into_iter-part-iterator.result} c.args.parts.items (search rules) (search rules) in
    let turn = YieldsList-turn yields so_far.yielded so_far.part-iterator so_far.yielded_by c.next.result c.next.new.self c.in-Some.part c.in-Some.is c.next.ensures.steps in
    subst HasEnds (sym turn.1) (All-get_or HasEnds c.args.parts.items (length so_far.yielded) c.in-Some.part turn.0 c.requires.ends)

pub loop-part-preserved : goal.loop-part-preserved
loop-part-preserved g c =
    let state = g.T.Transport.state in
    let so_far = c.loop-part in
    let report = c.in_ok-report_from in
    record {
      reported = rw c.in_ok-push.ensures.items (zip_push (IsPartReport state) so_far.yielded so_far.moved.items c.in-Some.part report.field-0 so_far.invariant.reported report.ensures.reports);
      planned = rw c.in_ok-push.ensures.items (zip_push (ReportsItsPlan state) so_far.yielded so_far.moved.items c.in-Some.part report.field-0 so_far.invariant.planned report.ensures.planned);
    }

pub returns-clause-planned : goal.returns-clause-planned
returns-clause-planned g c =
    let state = g.T.Transport.state in
    let so_far = c.loop-part in
    let yields = YieldsList-from_vec {s = c.into_iter-part-iterator.result} c.args.parts.items (search rules) (search rules) in
    let end = YieldsList-end yields so_far.yielded so_far.part-iterator so_far.yielded_by c.next.result c.next.new.self c.in-None.is c.next.ensures.steps in
    λ plan. all_planned state plan c.args.parts.items c.from_vec.result
    (rw c.from_vec.ensures (subst (λ (parts : List (ChannelPartView g.row.S.Denot g.row.T.Denot)). AllZip (ReportsItsPlan state) parts so_far.moved.items) (sym (map-id so_far.yielded) ∙ end.0) so_far.invariant.planned))
