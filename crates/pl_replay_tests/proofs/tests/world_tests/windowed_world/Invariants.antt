use Rattle.std.specs.Prelude.{All}
use Rattle.pl_head.specs.contracts.transports.MemoryTransportTransport.TheImpl.{state-value}
use Rattle.pl_world.specs.Worlds.{IsUncalled}
use Rattle.pl_replay_tests.proofs.tests.world_tests.windowed_world.Given as goal

-- those so far were not called
abbrev pub invariant-loop : goal.invariant-loop
invariant-loop l = All (λ transport. IsUncalled (state-value.it transport)) l.transports
