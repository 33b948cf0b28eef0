-- Outboxes may go to another thread.
use denote.Ref.{NamedLft}
use denote.RattleType.{RattleType}
use denote.Struct.Declared.{shape, fields}
use denote.Param.Send.{IsSend, IsSync, AllSend, sendable, view_send, recorded_send, struct_send}
use Rattle.std.proofs.vec.Vec.TheSendSync as vec
use Rattle.std.proofs.alloc.Global.TheSendSync as global
use Rattle.std.below.std_heap.proofs.GlobalAllocator.TheSendSync as global_allocator
use Rattle.pl_event.specs.declared.named.Named as named
use Rattle.pl_queue.specs.declared.mailbox.Mailbox as mailbox
use Rattle.pl_words.specs.contracts.admission.Admitted as admitted
use Rattle.pl_context.specs.contracts.waiting.Waiting as waiting
use Rattle.pl_context.proofs.waiting.Waiting.TheSendSync as waits
use Rattle.pl_outbox.specs.contracts.number_set.NumberSet as number_set
use Rattle.pl_outbox.specs.contracts.outboxes.Outboxes as outboxes
use Rattle.pl_outbox.specs.contracts.outboxes.Outboxes.TheInside as outboxes_inside
use Rattle.pl_outbox.proofs.inbox.Inbox.TheSendSync as inbox
use Rattle.pl_outbox.proofs.outbox.Outbox.TheSendSync as outbox
use Rattle.pl_outbox.proofs.tries.Tries.TheSendSync as tries

admitted_send : IsSend admitted.the_row
admitted_send = search sendable depth 20

pub waiting_send : IsSend (waiting.the_row admitted.the_row)
waiting_send = waits.the_send admitted.the_row admitted_send

number_set_send : IsSend (number_set.the_field).row
number_set_send =
    let O = number_set.the_type in
    let all : AllSend (fields O) = (search sendable, tt) in
    struct_send (shape O) all

module _ (a : NamedLft) (W M S T : RattleType) (w : named.Ghosts W.Denot) (m : mailbox.Ghosts M.Denot W.Denot S.Denot T.Denot) where
  pub outboxes_send : IsSend S → IsSync M → IsSend (outboxes.the_row a W M S T w m)
  outboxes_send s y =
      let o = outbox.the_send a W M S T w m s y in
      let i = inbox.the_sync W M S T y in
      let O = outboxes_inside.the_type a W M S T w m in
      let all : AllSend (fields O) = (search (sendable, i) depth 20, (vec.the_send _ _ _ (search sendable) global.the_send global_allocator.the_frees, (vec.the_send _ _ _ o global.the_send global_allocator.the_frees, (waiting_send, (search sendable, (tries.the_send, (number_set_send, (search sendable, tt)))))))) in
      view_send _ _ _ _ _ (recorded_send _ _ O.to O.to_one (struct_send (shape O) all))
