-- What C holds may go to another thread, as the channel and the heap may.
use mir.Raw.{raw}
use base.Fraction.{full_share}
use base.Shift.{Keyless}
use denote.Exit.{Exit, unchanged, leaves, hidden, under}
use denote.Memory.{lone}
use denote.RawPtr.{Ptr, block_ptr, null_ptr}
use denote.Struct.Struct.{exits_of}
use denote.Struct.Owning.{shape, fields, to}
use denote.Param.Send.{IsSend, Quiet, AllSend, part_keyless, owning_send, struct_send, sendable}
use Rattle.std.proofs.Crossing as heap
use Rattle.std.proofs.alloc.Global.TheSendSync as global
use Rattle.std.specs.declared.alloc.Global.{Global}
use Rattle.std.specs.declared.option.Option.{Option}
use Rattle.pl_live_c.specs.contracts.channels.Channel as channel
use Rattle.pl_live_c.proofs.channels.Channel.TheSendSync.{the_send}
use Rattle.pl_live_c.specs.contracts.held.Held.{the_row, the_type}
use Rattle.pl_live_c.specs.Holding.{holds}

keyless : (alloc : Global) (p : Ptr) (held : Option (channel.the_row).Denot) → Keyless (holds alloc p held)
keyless alloc null_ptr held = tt
keyless alloc (block_ptr b o) held = λ x. (tt, (part_keyless channel.the_row the_send full_share x b o, heap.frees.frees alloc (raw (lone channel.the_row.mir)) (block_ptr b o)))

quiet : {D X : Type 0} (view : D → X) (e : Exit X) → Quiet e → Quiet (hidden (under view e))
quiet view unchanged q = λ x w. tt
quiet view (leaves L l S s r₀) q = λ d. q (view d)

pub send : IsSend the_row
send =
    let all : AllSend (fields the_type) = (search sendable, (global.the_field_send, tt)) in
    owning_send the_type all (λ d. keyless d.alloc d.at d.channel)
    (λ k. quiet (to the_type) (exits_of k (fields the_type)) ((struct_send (shape the_type) all).leaving k))
