use Rattle.std.proofs.Common.{◌≡◌}
use Rattle.pl_queue_tests.specs.Openings.{hops_below}
use Rattle.pl_queue_tests.proofs.openings.lanes_of_channel.Given as goal

abbrev pub invariant-loop-hop : goal.invariant-loop-hop
invariant-loop-hop l = l.lanes.items ≡ hops_below l.channel l.hop
