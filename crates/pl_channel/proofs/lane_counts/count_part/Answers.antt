use Rattle.std.proofs.Common.{map, arith}
use Rattle.pl_channel.proofs.CountedParts.{hop-counted, hop-room, hops-counted}
use Rattle.pl_channel.proofs.PlaceTables.{items}
use Rattle.pl_channel.proofs.lane_counts.count_part.Goals as goal

pub count_lane-requires : goal.count_lane-requires
count_lane-requires g c =
    hop-room c.args.part.now (map items c.args.table.now.items) (map items c.loop-hop.table.items) c.loop-hop.hop c.loop-hop.invariant c.origin_of.result c.target.result
    c.origin_of.ensures c.target.ensures (omega arith) c.requires.room

pub loop-hop-preserved : goal.loop-hop-preserved
loop-hop-preserved g c =
    hop-counted c.args.part.now (map items c.args.table.now.items) (map items c.loop-hop.table.items) c.loop-hop.hop c.loop-hop.invariant c.origin_of.result c.target.result
    c.origin_of.ensures c.target.ensures (map items c.count_lane.new.table.items) c.count_lane.ensures

pub returns : goal.returns
returns g c = hops-counted c.args.part.now (map items c.args.table.now.items) (map items c.loop-hop.table.items) c.loop-hop.hop c.loop-hop.invariant (omega arith)
