use Rattle.std.proofs.Common.{refl}
use Rattle.pl_replay.proofs.Hindered.{no-executor, tells-hand, tells-no-entry, tells-full}
use Rattle.pl_replay.proofs.nets.Net.hand_hindrance.Goals as goal

pub returns-in_err-station : goal.returns-in_err-station
returns-in_err-station g c = no-executor c.args.executor (λ plan. refl) c.in_err-station.ensures c.from_residual.ensures

pub returns-then-is_some : goal.returns-then-is_some
returns-then-is_some g c = tells-hand c.in_ok-station.ensures c.next_target.ensures.next c.is_some.ensures c.if-is_some.true

pub returns-then-backlog_is_empty : goal.returns-then-backlog_is_empty
returns-then-backlog_is_empty g c = tells-no-entry c.in_ok-station.ensures c.next_target.ensures.next c.is_some.ensures c.backlog_is_empty.ensures c.if-is_some.false c.if-backlog_is_empty.true

pub returns : goal.returns
returns g c = tells-full c.in_ok-station.ensures c.next_target.ensures.next c.is_some.ensures c.backlog_is_empty.ensures c.if-is_some.false c.if-backlog_is_empty.false
