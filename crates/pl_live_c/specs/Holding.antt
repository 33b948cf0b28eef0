-- What C holds of a channel.
use Rattle.std.specs.Prelude.{Option, Some, None}
use base.Fml.{Fml, fsep, fex, feq}
use base.Stored.{Coded}
use denote.RawPtr.{Ptr, null_ptr, block_ptr}
use Rattle.std.specs.Coded.{coded_option}
use Rattle.std.specs.Box.Ownership.{box_owns}
use Rattle.std.specs.declared.alloc.Global.{Global}
use Rattle.std.specs.contracts.impls.GlobalAllocator.TheImpl.{ghosts}
use Rattle.pl_live_c.specs.contracts.channels.Channel.{the_row}

abbrev pub channel_coded : Coded (Option the_row.Denot)
channel_coded = coded_option the_row.coded

-- null holds none, and any other address a channel, with the right to free its block
abbrev pub holds : Global → Ptr → Option the_row.Denot → Fml
holds alloc null_ptr channel = feq (Option the_row.Denot) channel None
holds alloc (block_ptr b o) channel = fex the_row.Denot (λ x. fsep (feq (Option the_row.Denot) channel (Some x)) (box_owns (ghosts.dealloc_token alloc) the_row (block_ptr b o) x))
