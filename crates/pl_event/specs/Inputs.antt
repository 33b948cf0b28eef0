-- Recorded input: what a channel's bursts give, as events (Netty: channelActive, channelRead, userEventTriggered,
-- channelReadComplete).
use Rattle.std.specs.Prelude.{ℕ, List, [], ◌∷◌, ◌++◌, length, map, take}
use Rattle.std.specs.List.{flat_map}
use Rattle.pl_event.specs.declared.events.Event.{Event}
use Rattle.pl_event.specs.declared.events.Event.TheVariants as event
use Rattle.pl_event.specs.declared.events.Message.TheVariants as message
use Rattle.pl_event.specs.declared.elements.Element.{Element}
use Rattle.pl_event.specs.declared.elements.Element.TheVariants.{Chunk, User}

-- the event that an element of a burst comes as
abbrev pub element_event : Element → Event
element_event (Chunk bytes) = event.Read (message.Bytes bytes)
element_event (User number) = event.User number

-- how many bytes an element brings
abbrev pub element_size : Element → ℕ
element_size (Chunk bytes) = length bytes
element_size (User number) = 0

-- the bursts of a channel, each with its elements
abbrev pub Bursts : Type 0
Bursts = List (List Element)

-- one burst is the event of each element, and then its completion
abbrev pub burst_events : List Element → List Event
burst_events elements = map element_event elements ++ event.ReadComplete ∷ []

-- What a channel's bursts bring as events (ChannelInboundHandler). The channel becomes active, and the bursts follow.
abbrev pub recorded_input : Bursts → List Event
recorded_input bursts = event.Active ∷ flat_map burst_events bursts

-- The read steps of a channel: it becomes active, then comes each burst, and then the end, which brings no event.
abbrev pub read_steps : Bursts → List (List Event)
read_steps bursts = (event.Active ∷ []) ∷ (map burst_events bursts ++ [] ∷ [])

-- the events that the first n read steps bring
abbrev pub input_after : ℕ → Bursts → List Event
input_after n bursts = flat_map (λ step. step) (take n (read_steps bursts))
