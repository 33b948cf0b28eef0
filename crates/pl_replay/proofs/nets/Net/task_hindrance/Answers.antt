use Rattle.std.proofs.Common.{◌≡◌, ◌==◌, length, refl, rules}
use Rattle.pl_replay.proofs.Hindered.{no-executor, tells-no-task, tells-task}
use Rattle.pl_replay.proofs.nets.Net.task_hindrance.Goals as goal

pub returns-in_err-station : goal.returns-in_err-station
returns-in_err-station g c = no-executor c.args.executor (λ plan. refl) c.in_err-station.ensures c.from_residual.ensures

pub returns-then-is_empty : goal.returns-then-is_empty
returns-then-is_empty g c =
    let empty : c.is_empty.result ≡ (length c.in_ok-station.station.now.queue == 0) = search rules in
    tells-no-task c.in_ok-station.ensures empty c.if-is_empty.true

pub returns : goal.returns
returns g c =
    let empty : c.is_empty.result ≡ (length c.in_ok-station.station.now.queue == 0) = search rules in
    tells-task c.in_ok-station.ensures empty c.if-is_empty.false
