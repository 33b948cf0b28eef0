use Rattle.std.proofs.Common.{arith}
use Rattle.pl_exec.specs.Opening.{ways_in}
use Rattle.pl_exec.proofs.WaysMade.{added-new, none-there}
use Rattle.pl_exec.proofs.lanes.add_lane.Goals as goal

pub add_behind-requires-clause-last : goal.add_behind-requires-clause-last
add_behind-requires-clause-last c = omega (arith, c.if-count-gt0.true, c.len-count.ensures, c.args.ways.now.ok.0)

pub returns : goal.returns
returns c = λ target others own all are.
    let ways = c.args.ways.now in
    added-new ways.items others target c.args.origin own c.args.lane all are (ways_in c.add_new.new.ways.items)
    (none-there ways.items others target c.args.origin own are (omega (arith, c.if-count-gt0.false, c.len-count.ensures, ways.ok.0))) c.in_ok-add_new.ensures

pub returns-then-count-gt0 : goal.returns-then-count-gt0
returns-then-count-gt0 c = c.in_ok-add_behind.ensures
