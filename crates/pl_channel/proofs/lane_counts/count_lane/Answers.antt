use Rattle.std.proofs.Common.{arith}
use Rattle.pl_channel.proofs.PlaceTables.{row-counted, row-room}
use Rattle.pl_channel.proofs.lane_counts.count_lane.Goals as goal

pub count_in-requires : goal.count_in-requires
count_in-requires c =
    row-room c.args.table.now.items c.args.origin c.index_mut.result.now (omega (arith, c.args.table.now.ok.0)) c.index_mut.ensures.value c.args.target c.requires

pub returns-then-origin-len : goal.returns-then-origin-len
returns-then-origin-len c =
    row-counted c.args.table.now.items c.args.origin c.index_mut.result.now (omega (arith, c.args.table.now.ok.0)) c.index_mut.ensures.value c.args.target c.count_in.new.row c.count_in.ensures
