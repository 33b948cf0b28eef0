use Rattle.std.proofs.Common.{◌++◌, ◌∷◌, [], map, ap, sym, ◌∙◌}
use Rattle.std.proofs.lemmas.List.{map_push}
use Rattle.pl_world.specs.Plans.{channel_planned}
use Rattle.pl_world.specs.Reports.{whole_report}
use Rattle.pl_world.proofs.ChainSteps.{pushed_more}
use Rattle.pl_world.proofs.composing.whole_reports.Goals as goal

pub loop-record-preserved : goal.loop-record-preserved
loop-record-preserved g c =
    let so_far = c.loop-record in
    let planned = channel_planned g.S.Stage.meaning g.T.Transport.state in
    pushed_more whole_report [] so_far.reports.items c.push.new.self.items (map planned so_far.yielded) (planned c.in-Some.record) so_far.invariant
    (c.in_ok-push.ensures.items ∙ ap (λ report. so_far.reports.items ++ report ∷ []) c.in_ok-report.ensures.whole)
    ∙ ap (map whole_report) (sym (map_push planned so_far.yielded c.in-Some.record))
