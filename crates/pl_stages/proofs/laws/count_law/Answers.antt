use Rattle.pl_stages.specs.HandlerThrift.{handler-thrifty}
use Rattle.pl_stages.specs.Thrift.{line_framing-thrifty, length_framing-thrifty, command_decoding-thrifty, line_service-thrifty, reply_encoding-thrifty, line_ending-thrifty, length_prepending-thrifty, flush_every-thrifty}
use Rattle.pl_stages.proofs.laws.count_law.Goals as goal

pub returns : goal.returns
returns c = assumption (line_framing-thrifty, length_framing-thrifty, command_decoding-thrifty, line_service-thrifty, reply_encoding-thrifty, line_ending-thrifty, length_prepending-thrifty, flush_every-thrifty, handler-thrifty)
