use Rattle.std.proofs.Common.{◌≡◌, ◌≤◌, length, take, true, nat_lt}
use Rattle.std.specs.List.{list_all}
use Rattle.pl_world.proofs.worlds.is_placed.Given as goal

-- so far each hop has one, and is there
abbrev pub invariant-loop-hop : goal.invariant-loop-hop
invariant-loop-hop g l = record {
  within : l.hop ≤ length l.pipeline.executors;
  placed : list_all (λ executor. nat_lt executor l.executors) (take l.hop l.pipeline.executors) ≡ true;
}
