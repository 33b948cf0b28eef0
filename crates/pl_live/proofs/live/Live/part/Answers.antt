use Rattle.std.proofs.Common.{List, sym, ap, subst, ◌∙◌}
use Rattle.std.specs.Prelude.{slice_index_or}
use Rattle.pl_event.proofs.Lists.{some-of}
use Rattle.pl_part.specs.Parts.{ChannelPartView}
use Rattle.pl_replay.specs.Reported.{HasEnds}
use Rattle.pl_live.proofs.live.Live.part.Goals as goal

pub returns-clause-ends : goal.returns-clause-ends
returns-clause-ends g c =
    let goes = c.self.invariant.1.goes in
    let is = c.index.ensures ∙ ap (λ (ps : List (ChannelPartView _ _)). slice_index_or ps 0 c.index.result.now) goes.is_alone in
    let tail = some-of goes.part.path.tail goes.by_plan.has_tail in
    let head = some-of goes.part.head goes.by_plan.has_head in
    subst HasEnds (sym is) (record { tail = tail.0; head = head.0; has_tail = tail.1; has_head = head.1 })
