use Rattle.pl_live.proofs.Pending.{written-out}
use Rattle.pl_live.proofs.live.Live.wants_input.Goals as goal

pub returns-else-is_writable-clause-wanted : goal.returns-else-is_writable-clause-wanted
returns-else-is_writable-clause-wanted g c = λ p w r sound window ends taken consumed.
    written-out g.S.Stage.meaning g.S.Stage.stands_after g.T.Transport.state p c.args.self.now r sound w window consumed c.head-head.result.now c.head-head.ensures c.is_written.result c.is_written.ensures.stands
