use Rattle.std.proofs.Common.{arith}
use Rattle.pl_exec.specs.Opening.{lanes_in}
use Rattle.pl_exec.proofs.LaneTablesGrown.{kept-table, lists-square, pushed-table, table-rows}
use Rattle.pl_exec.proofs.lanes.add_between.Goals as goal
use Rattle.pl_exec.proofs.lanes.add_between.Goals.{else-origin-target-via-then-origin-target+else-origin-len, else-origin-target-via-else-origin-target}

pub returns-in_ok-push : goal.returns-in_ok-push
returns-in_ok-push c =
    let table = c.args.table.now in
    pushed-table c.args.origin c.args.target c.args.lane table.items c.index_mut.result.now c.push.new.self (omega (arith, c.if-origin-len.true, c.len.ensures, table.ok.0)) c.if-origin-target.true c.index_mut.ensures.value c.in_ok-push.ensures.items

pub returns-else-origin-target : goal.returns-else-origin-target
returns-else-origin-target c =
    let table = c.args.table.now in
    let size = table-rows table.items in
    kept-table c.args.origin c.args.target c.args.lane (lanes_in table.items) (lists-square table.items)
    (λ apart from to. elim c.else-origin-target.branch [
      | else-origin-target-via-then-origin-target+else-origin-len w ↦ omega (arith, from, size, w.if-origin-len.false, w.len.ensures, table.ok.0)
      | else-origin-target-via-else-origin-target w ↦ apart w.if-origin-target.false
    ])
