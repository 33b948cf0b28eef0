use Rattle.std.proofs.Common.{arith}
use Rattle.std.proofs.lemmas.List.{length-set}
use Rattle.pl_exec.proofs.WaysMade.{leaving-added, leaving-past}
use Rattle.pl_exec.proofs.lanes.add_leaving.Goals as goal

pub returns-in_ok-add_lane-clause-count : goal.returns-in_ok-add_lane-clause-count
returns-in_ok-add_lane-clause-count c = length-set c.args.table.now.items c.args.leaving.target c.add_lane.new.ways

pub returns-in_ok-add_lane-clause-added : goal.returns-in_ok-add_lane-clause-added
returns-in_ok-add_lane-clause-added c = leaving-added c.args.table.now.items c.args.origin c.args.leaving c.index_mut.result.now c.add_lane.new.ways c.index_mut.ensures.value c.in_ok-add_lane.ensures

pub returns-else-leaving-len-clause-added : goal.returns-else-leaving-len-clause-added
returns-else-leaving-len-clause-added c = λ target before after at at' others own all.
    leaving-past c.args.table.now.items c.args.origin c.args.leaving (omega (arith, c.if-leaving-len.false, c.len.ensures, c.args.table.now.ok.0)) target before after at at' others own
