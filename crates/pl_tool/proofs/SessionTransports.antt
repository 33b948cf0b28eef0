-- The transports of a session that was read.
use Rattle.std.proofs.Common.{◌≡◌, List, [], ◌∷◌, map, refl, ap₂}
use Rattle.std.specs.Prelude.{All}
use Rattle.std.proofs.lemmas.List.Elements.{All-head, All-tail}
use Rattle.pl_event.specs.Meaning.{Meaning}
use Rattle.pl_head.specs.Transports.{MemoryTransportView, TransportState, memory_state, new_state}
use Rattle.pl_replay.specs.Starts.{transports_of}
use Rattle.pl_world.specs.declared.session.Recorded.{Recorded}
use Rattle.pl_world.specs.Plans.{channel_planned}
use Rattle.pl_world.specs.Worlds.{IsUncalled}

-- those of recorded channels are as the channels' plan says, where none was called
pub as_planned : {S : Type 0} (meaning : S → Meaning) (rs : List (Recorded S MemoryTransportView)) → All (λ r. IsUncalled (memory_state r.transport)) rs
    → map memory_state (transports_of rs) ≡ map (λ channel. new_state channel.window channel.fail_at) (map (channel_planned meaning memory_state) rs)
as_planned meaning [] uncalled = refl
as_planned meaning (r ∷ rs) uncalled =
    let Uncalled = λ (r : Recorded _ MemoryTransportView). IsUncalled (memory_state r.transport) in
    ap₂ (λ (s : TransportState) (ss : List TransportState). s ∷ ss) (All-head Uncalled r rs uncalled) (as_planned meaning rs (All-tail Uncalled r rs uncalled))
