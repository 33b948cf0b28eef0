use Rattle.std.proofs.Common.{◌≡◌, ◌∙◌, sym, ap}
use Rattle.pl_replay.specs.Reported.{is_drained}
use Rattle.pl_replay.proofs.ReportLists.{not_drained, one_more_drained}
use Rattle.pl_replay.proofs.reporting.are_drained.Goals as goal
use Rattle.pl_replay.proofs.reporting.are_drained.Goals.{in-Drained, in_default}

pub loop-part-preserved : goal.loop-part-preserved
loop-part-preserved g c =
    let stands = c.stands_of.result in
    let here = c.match-matches.matches in
    let is : here ≡ is_drained stands = elim c.match-matches.branch as (λ _. here ≡ is_drained stands) [ in-Drained w ↦ w.matches-is ∙ ap is_drained (sym w.in-Drained.is) | in_default w ↦ w.matches-is ∙ sym (not_drained stands w.in_default.not-Drained) ] in
    one_more_drained g.T.Transport.state c.args.parts.now c.loop-part.part-index c.part-item.result c.loop-part.drained stands here c.loop-part-test.true c.part-item.is is c.loop-part.invariant c.stands_of.ensures
