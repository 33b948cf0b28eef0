-- The built-in handlers make no more than they take.
use Rattle.pl_stages.specs.declared.handlers.Handler.{Handler}
use Rattle.pl_stages.specs.declared.handlers.Handler.TheVariants.{Lines, Length, Decode, LineEnd, Prepend, Encode, FlushEvery, Service}
use Rattle.pl_stages.specs.contracts.handlers.HandlerStage.TheImpl.{meaning-value}
use Rattle.pl_stages.specs.Counts.{IsThrifty}
use Rattle.pl_stages.specs.Thrift.{line_framing-thrifty, length_framing-thrifty, command_decoding-thrifty, line_service-thrifty, reply_encoding-thrifty, line_ending-thrifty, length_prepending-thrifty, flush_every-thrifty}

pub handler-thrifty : (h : Handler) → IsThrifty (meaning-value.it h)
handler-thrifty (Lines s) = line_framing-thrifty _
handler-thrifty (Length s) = length_framing-thrifty _ _ s.stage.widths
handler-thrifty (Decode s) = command_decoding-thrifty
handler-thrifty (LineEnd s) = line_ending-thrifty
handler-thrifty (Prepend s) = length_prepending-thrifty _
handler-thrifty (Encode s) = reply_encoding-thrifty
handler-thrifty (FlushEvery s) = flush_every-thrifty _
handler-thrifty (Service s) = line_service-thrifty
