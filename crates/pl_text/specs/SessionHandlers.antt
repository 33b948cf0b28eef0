-- What the kinds of handlers mean (docs/FORMATS.md, "Session").
use Rattle.pl_event.specs.Meaning.{Meaning}
use Rattle.pl_stages.specs.LineFraming.{line_framing}
use Rattle.pl_stages.specs.Commands.{command_decoding}
use Rattle.pl_stages.specs.LineEnding.{line_ending}
use Rattle.pl_stages.specs.Flushes.{flush_every}
use Rattle.pl_stages.specs.Replies.{reply_encoding}
use Rattle.pl_stages.specs.LengthFraming.{length_framing}
use Rattle.pl_stages.specs.LengthPrepending.{length_prepending}
use Rattle.pl_stages.specs.Service.{line_service}
use Rattle.pl_text.specs.declared.session_text.outline.HandlerKind.{HandlerKind}
use Rattle.pl_text.specs.declared.session_text.outline.HandlerKind.TheVariants.{Lines, Decode, LineEnd, Encode, Service, FlushEvery, Length, Prepend}

abbrev pub meaning_of : HandlerKind → Meaning
meaning_of (Lines max) = line_framing max
meaning_of Decode = command_decoding
meaning_of LineEnd = line_ending
meaning_of Encode = reply_encoding
meaning_of Service = line_service
meaning_of (FlushEvery n) = flush_every n
meaning_of (Length width max) = length_framing width max
meaning_of (Prepend width) = length_prepending width
