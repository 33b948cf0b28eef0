-- Line ends: CR LF after each write of bytes (docs/FORMATS.md, "Handlers").
use Rattle.std.specs.Prelude.{[], ◌∷◌, ◌++◌}
use Rattle.pl_event.specs.declared.events.Event.{Event}
use Rattle.pl_event.specs.declared.events.Event.TheVariants.{Write}
use Rattle.pl_event.specs.declared.events.Message.TheVariants.{Bytes}
use Rattle.pl_event.specs.Meaning.{Meaning}
use Rattle.pl_event.specs.Mappings.{mapping_down}

-- each write of bytes gains a carriage return (byte 13) and a line feed (byte 10) at its end
abbrev pub with_line_end : Event → Event
with_line_end (Write (Bytes b)) = Write (Bytes (b ++ 13 ∷ 10 ∷ []))
with_line_end event = event

-- the handler that ends written bytes with CR LF (ChannelOutboundHandler)
abbrev pub line_ending : Meaning
line_ending = mapping_down with_line_end
