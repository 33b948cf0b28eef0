use Rattle.std.proofs.Common.{◌-◌, ◌≤◌, arith}
use Rattle.pl_event.specs.Inputs.{burst_events}
use Rattle.pl_stages.specs.Counts.{weight}
use Rattle.pl_world.proofs.SmallLanes.{burst_weight}
use Rattle.pl_live.proofs.Looks.{some-less}
use Rattle.pl_live.proofs.live.room_after.Goals as goal

pub returns-in_err-bytes_left : goal.returns-in_err-bytes_left
returns-in_err-bytes_left c = rw c.from_residual.ensures (λ less. let size = burst_weight c.args.burst.now in c.in_err-bytes_left.ensures (omega (arith, less, size)))

pub returns-in_err-checked_sub : goal.returns-in_err-checked_sub
returns-in_err-checked_sub c =
    let left = c.in_ok-bytes_left.ensures in
    rw c.from_residual-in_err-checked_sub.ensures (λ less. let size = burst_weight c.args.burst.now in c.in_err-checked_sub.ensures (omega (arith, less, size, left)))

pub returns : goal.returns
returns c =
    let n = c.in_ok-checked_sub.field-0 in
    let bytes = c.in_ok-bytes_left.ensures in
    let elements = c.in_ok-checked_sub.ensures in
    let size = burst_weight c.args.burst.now in
    let all = weight (burst_events c.args.burst.now) in
    some-less c.checked_sub-2.result (1 ≤ n) (all ≤ c.args.room) (n - 1) (c.args.room - all) c.checked_sub-2.ensures
    (λ one. omega (arith, one, bytes, elements, size)) (λ less. omega (arith, less, bytes, elements, size)) (omega (arith, bytes, elements, size))
