-- Handler path: which handlers of a pipeline an event visits, and in which order (Netty's ChannelPipeline).
use Rattle.std.specs.Prelude.{List, Bool, true, false, not, filter, reverse}
use Rattle.std.specs.List.{take_while}
use Rattle.pl_event.specs.declared.stages.Direction.{Direction}
use Rattle.pl_event.specs.declared.stages.Direction.TheVariants.{Inbound, Outbound, Turn}
use Rattle.pl_event.specs.Meaning.{Meaning}

-- outbound events visit a stage of this direction
abbrev pub is_outbound : Direction → Bool
is_outbound Inbound = false
is_outbound Outbound = true
is_outbound Turn = false

-- a stage of this direction takes inbound events and writes
abbrev pub is_turn : Direction → Bool
is_turn Inbound = false
is_turn Outbound = false
is_turn Turn = true

-- The handlers that inbound events visit, first to last (ChannelPipeline). The turn is among them.
abbrev pub inbound_chain : List Meaning → List Meaning
inbound_chain handlers = filter (λ m. not (is_outbound m.direction)) handlers

-- the handlers that stand before the turn
abbrev pub before_turn : List Meaning → List Meaning
before_turn handlers = take_while (λ m. not (is_turn m.direction)) handlers

-- The handlers that the turn's writes visit, nearest first (ChannelHandlerContext). They are the outbound ones that
-- stand before it.
abbrev pub outbound_chain : List Meaning → List Meaning
outbound_chain handlers = reverse (filter (λ m. is_outbound m.direction) (before_turn handlers))
