-- Handlers that make one event of each event, whatever came before.
use Rattle.std.specs.Prelude.{[], ◌∷◌}
use Rattle.pl_event.specs.declared.events.Event.{Event}
use Rattle.pl_event.specs.Meaning.{Meaning, IsLawful}
use Rattle.pl_event.specs.Passing.{passing_up, passing_up-lawful, passing_down, passing_down-lawful}

-- an inbound handler that makes f x of each event x
abbrev pub mapping_up : (Event → Event) → Meaning
mapping_up f = passing_up (λ xs x. f x ∷ [])

-- an outbound handler that makes f x of each event x (ChannelOutboundHandler)
abbrev pub mapping_down : (Event → Event) → Meaning
mapping_down f = passing_down (λ xs x. f x ∷ [])

pub mapping_up-lawful : (f : Event → Event) → IsLawful (mapping_up f)
mapping_up-lawful f = passing_up-lawful (λ xs x. f x ∷ [])

pub mapping_down-lawful : (f : Event → Event) → IsLawful (mapping_down f)
mapping_down-lawful f = passing_down-lawful (λ xs x. f x ∷ [])
