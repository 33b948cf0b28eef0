use Rattle.std.proofs.Common.{map, arith}
use Rattle.pl_channel.proofs.CountedParts.{part-counted, part-room, parts-counted}
use Rattle.pl_channel.proofs.PlaceTables.{items}
use Rattle.pl_channel.proofs.lane_counts.places_between.Goals as goal

pub count_part-requires-clause-room : goal.count_part-requires-clause-room
count_part-requires-clause-room g c =
    part-room c.args.parts.now c.args.count (map items c.loop-part.table.items) c.loop-part.part-index c.loop-part.invariant c.part-item.result c.loop-part-test.true c.part-item.is c.requires

pub loop-part-preserved : goal.loop-part-preserved
loop-part-preserved g c =
    part-counted c.args.parts.now c.args.count (map items c.loop-part.table.items) c.loop-part.part-index c.loop-part.invariant c.part-item.result c.loop-part-test.true c.part-item.is
    (map items c.count_part.new.table.items) c.count_part.ensures

pub returns : goal.returns
returns g c = parts-counted c.args.parts.now c.args.count (map items c.loop-part.table.items) c.loop-part.part-index c.loop-part.invariant (omega arith)
