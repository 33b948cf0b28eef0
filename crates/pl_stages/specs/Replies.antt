-- Replies: their texts, and writes of them as bytes (docs/FORMATS.md, "Replies").
use Rattle.std.specs.Prelude.{ℕ, List, ◌++◌, codes, decimal}
use Rattle.pl_event.specs.declared.events.Event.{Event}
use Rattle.pl_event.specs.declared.events.Event.TheVariants as event
use Rattle.pl_event.specs.declared.events.Message.TheVariants as message
use Rattle.pl_event.specs.declared.events.Reply.{Reply}
use Rattle.pl_event.specs.declared.events.Reply.TheVariants.{Pong, Text, Total, Bye, Error}
use Rattle.pl_event.specs.declared.events.Fault.{Fault}
use Rattle.pl_event.specs.declared.events.Fault.TheVariants.{Unknown, Syntax, TooLong, Range, Full}
use Rattle.pl_event.specs.Meaning.{Meaning}
use Rattle.pl_event.specs.Mappings.{mapping_down}

-- the text of an error reply
abbrev pub fault_text : Fault → List ℕ
fault_text Unknown = codes "-ERR unknown"
fault_text Syntax = codes "-ERR syntax"
fault_text TooLong = codes "-ERR toolong"
fault_text Range = codes "-ERR range"
fault_text Full = codes "-ERR full"

-- the text of a reply
abbrev pub reply_text : Reply → List ℕ
reply_text Pong = codes "+PONG"
reply_text (Text text) = codes "+" ++ text
reply_text (Total total) = codes ":" ++ decimal total
reply_text Bye = codes "+BYE"
reply_text (Error fault) = fault_text fault

-- each write of a reply becomes a write of its text
abbrev pub encoded : Event → Event
encoded (event.Write (message.Reply reply)) = event.Write (message.Bytes (reply_text reply))
encoded other = other

-- the handler that writes each reply as its text (ChannelOutboundHandler)
abbrev pub reply_encoding : Meaning
reply_encoding = mapping_down encoded
