use Rattle.std.proofs.Common.{◌≡◌, ◌++◌, length, take}
use Rattle.std.specs.List.{flat_map, range_with_len}
use Rattle.pl_exec.specs.Opening.{lanes_in}
use Rattle.pl_exec.specs.Lanes.{every_lane, lanes_at, table_of}
use Rattle.pl_exec.proofs.lanes.lane_table.Given as goal

-- The table has the lanes of the first channels.
abbrev pub invariant-loop-part : goal.invariant-loop-part
invariant-loop-part g l = record {
  number : l.channel ≡ l.part-index;
  made : lanes_in l.table.items ≡ table_of l.parts l.count (every_lane (take l.part-index l.parts));
}

-- And those of the first hops of the next.
abbrev pub invariant-loop-hop : goal.invariant-loop-hop
invariant-loop-hop g l =
    lanes_in l.table.items ≡ table_of l.parts l.count (every_lane (take l.part-index l.parts) ++ flat_map (lanes_at l.channel (length l.part.path.executors)) (range_with_len 0 l.hop))
