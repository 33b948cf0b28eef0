use Rattle.std.proofs.Common.{◌≡◌, ◌++◌, map}
use Rattle.std.specs.Vec.Iter.{into_iter_items}
use Rattle.pl_exec.specs.Opening.{Way, ways_in}
use Rattle.pl_exec.proofs.lanes.split_ways.Given as goal

-- What was split, with what is left, is all.
abbrev pub invariant-loop-way : goal.invariant-loop-way
invariant-loop-way l = record {
  origins : l.origins.items ++ map (λ (way : Way). way.origin) (ways_in (into_iter_items l.way-iterator)) ≡ map (λ (way : Way). way.origin) (ways_in l.fn.ways.items);
  lanes : map (λ s. s.items) l.lanes.items ++ map (λ (way : Way). way.lanes) (ways_in (into_iter_items l.way-iterator)) ≡ map (λ (way : Way). way.lanes) (ways_in l.fn.ways.items);
}
