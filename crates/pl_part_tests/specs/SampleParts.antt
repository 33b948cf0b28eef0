-- The part of the tests: its nodes, its world, and how it stands with its work list.
use Rattle.std.specs.Prelude.{◌≡◌, List, [], ◌∷◌, true, false, map, is_some, Option}
use Rattle.pl_event.specs.declared.events.Event.{Event}
use Rattle.pl_event.specs.declared.stages.Direction.TheVariants.{Inbound, Outbound, Turn}
use Rattle.pl_event.specs.Hops.{data_lane}
use Rattle.pl_event.specs.declared.elements.Element.TheVariants.{Chunk}
use Rattle.pl_event.specs.Inputs.{Bursts, recorded_input}
use Rattle.pl_event.specs.Meaning.{Meaning, up_of, down_of}
use Rattle.pl_event.specs.Worlds.{World, carrying}
use Rattle.pl_context.specs.ContextViews.{ContextView}
use Rattle.pl_context.specs.OutputsViews.{OutputsView}
use Rattle.pl_head.specs.Transports.{MemoryTransportView, memory_state}
use Rattle.pl_part.specs.Parts.{ChannelPartView}
use Rattle.pl_part_tests.specs.declared.relays.Relay.{Relay}
use Rattle.pl_part_tests.specs.Relays.{relaying}
use Rattle.pl_part_tests.specs.Playing.{Plays}

-- what the stages of the tests mean, and after what they stand
abbrev pub sample_meaning : Relay → Meaning
sample_meaning s = relaying s.direction

abbrev pub anywhere : Relay → List Event → Type 0
anywhere s xs = Unit {0}

-- the one burst, of one chunk, the text ab
abbrev pub sample_bursts : Bursts
sample_bursts = (Chunk (97 ∷ 98 ∷ []) ∷ []) ∷ []

-- what comes to the first hop in all
abbrev pub sample_events : List Event
sample_events = recorded_input sample_bursts

-- what the lane of each hop carries: the first handler's, the turn's, the tail's, the outbound handler's and the head's; they
-- may be refused
abbrev pub sample_world : World
sample_world =
    let handed = up_of (relaying Inbound) sample_events in
    let written = down_of (relaying Turn) handed in
    carrying ((data_lane 7 0, sample_events) ∷ (data_lane 7 1, handed) ∷ (data_lane 7 2, up_of (relaying Turn) handed) ∷ (data_lane 7 3, written) ∷ (data_lane 7 4, down_of (relaying Outbound) written) ∷ [])

-- all nodes of channel 7: two inbound handlers, the tail, an outbound handler and the head
pub record IsSample (p : ChannelPartView Relay MemoryTransportView) : Type 0 where
  pub channel : p.path.channel ≡ 7
  pub executors : p.path.executors ≡ 2 ∷ 0 ∷ 2 ∷ 1 ∷ 2 ∷ []
  pub filled : map (λ (slot : Option (ContextView Relay)). is_some slot) p.path.contexts ≡ true ∷ true ∷ false ∷ true ∷ []
  pub tail : is_some p.path.tail ≡ true
  pub tail_hop : p.path.tail_hop ≡ 2
  pub head : is_some p.head ≡ true

-- the part of the tests, and what waits for its nodes
pub record IsReady (p : ChannelPartView Relay MemoryTransportView) (w : OutputsView) : Type 0 where
  pub sample : IsSample p
  pub plays : Plays sample_world sample_meaning anywhere memory_state p w
