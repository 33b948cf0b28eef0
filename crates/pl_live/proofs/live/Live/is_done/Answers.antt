use Rattle.std.proofs.Common.{◌∙◌}
use Rattle.std.proofs.lemmas.Bool.{both_ways}
use Rattle.pl_live.proofs.Pending.{head-over, tail-over, written-out}
use Rattle.pl_live.proofs.live.Live.is_done.Goals as goal
use Rattle.pl_live.proofs.live.Live.is_done.Goals.{else-is_ended, then-is_ended}

pub returns-then-is_ended-2-clause-done : goal.returns-then-is_ended-2-clause-done
returns-then-is_ended-2-clause-done g c = λ p w r sound window ends consumed.
    written-out g.S.Stage.meaning g.S.Stage.stands_after g.T.Transport.state p c.args.self.now r sound w window consumed c.head-head.result.now c.head-head.ensures c.is_written.result c.is_written.ensures.stands

pub returns-else-is_ended-2-clause-done : goal.returns-else-is_ended-2-clause-done
returns-else-is_ended-2-clause-done g c = λ p w r sound window ends consumed.
    let live = c.args.self.now in
    let tail = c.is_ended.ensures ∙ tail-over g.S.Stage.meaning g.S.Stage.stands_after g.T.Transport.state p live r sound w window consumed ends c.tail.result.now c.tail.ensures in
    let head = head-over g.S.Stage.meaning g.S.Stage.stands_after g.T.Transport.state p live r sound w window consumed ends c.head-head.result.now c.head-head.ensures in
    elim c.if-is_ended.branch [
      | then-is_ended w ↦ w.value-is ∙ w.is_ended-then-is_ended.ensures ∙ head
      | else-is_ended w ↦ absurd (both_ways c.is_ended.result w.if-is_ended.false tail)
    ]
