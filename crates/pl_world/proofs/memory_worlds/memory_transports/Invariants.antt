use Rattle.std.proofs.Common.{◌≡◌, length, Some, None}
use Rattle.std.specs.Prelude.{All}
use Rattle.pl_head.specs.Transports.{new_state}
use Rattle.pl_head.specs.contracts.transports.MemoryTransportTransport.TheImpl.{state-value}
use Rattle.pl_world.specs.declared.memory_worlds.TheConstants.{MEMORY_WINDOW}
use Rattle.pl_world.proofs.memory_worlds.memory_transports.Given as goal

-- those so far are new
abbrev pub invariant-loop-number : goal.invariant-loop-number
invariant-loop-number l = record {
  count : length l.made.items ≡ l._number;
  each : All (λ t. state-value.it t ≡ new_state (Some MEMORY_WINDOW) None) l.made.items;
}
