use Rattle.pl_event.proofs.byte_string.ByteString.from_vec.Goals as goal

pub returns : goal.returns
returns c = c.from_vec.ensures.items
