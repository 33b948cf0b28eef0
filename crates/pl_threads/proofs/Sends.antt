-- An executor may go to another thread.
use denote.Ref.{NamedLft}
use denote.RattleType.{RattleType}
use denote.Enum.Declared as enum
use denote.Struct.Declared.{shape, fields}
use denote.Struct.Field.{unit-field, bool-field}
use denote.Struct.Tuple.{TupleAt, type_at}
use denote.Param.Send.{IsSend, IsSync, AllSend, sendable, view_send, recorded_send, struct_send, enum_send}
use mathlib.Core.List.{[], ◌∷◌}
use mir.Syntax.{Sym}
use Rattle.std.proofs.alloc.Global.TheSendSync as global
use Rattle.std.below.std_heap.proofs.GlobalAllocator.TheSendSync as global_allocator
use Rattle.std.specs.contracts.alloc.Global as global_row
use Rattle.std.specs.contracts.option.Option as option
use Rattle.std.specs.contracts.impls.GlobalAllocator.TheImpl as allocator
use Rattle.crossbeam_utils.specs.contracts.sync.parker.RuledParker as parker_row
use Rattle.crossbeam_utils.specs.contracts.rule.Unruled as unruled
use Rattle.crossbeam_utils.specs.contracts.rule.UnruledProtocolUnit.TheImpl as protocol
use Rattle.crossbeam_utils.proofs.sync.parker.RuledParker.TheSendSync as parker
use Rattle.pl_event.specs.declared.named.Named as named
use Rattle.pl_queue.specs.declared.mailbox.Mailbox as mailbox
use Rattle.pl_words.specs.contracts.admission.SendSeat as seat_row
use Rattle.pl_words.proofs.admission.OwnerSeat.TheSendSync as owner
use Rattle.pl_words.proofs.admission.SendSeat.TheSendSync as seat
use Rattle.pl_context.proofs.outputs.Outputs.TheSendSync as outputs
use Rattle.pl_outbox.proofs.Sends.{outboxes_send, waiting_send}
use Rattle.pl_outbox.proofs.inbox.Inbox.TheSendSync as inbox
use Rattle.pl_threads.specs.declared.nodes.OwnNodes as nodes
use Rattle.pl_threads.specs.contracts.cores.Core as core
use Rattle.pl_threads.specs.contracts.executors.Executor as executor
use Rattle.pl_threads.specs.contracts.executors.Executor.TheInside as executor_inside
use Rattle.pl_threads.specs.contracts.finished.Finished as finished
use Rattle.pl_threads.specs.contracts.finished.Finished.TheInside as finished_inside

module _ (a : NamedLft) (W M N S T : RattleType) (w : named.Ghosts W.Denot) (m : mailbox.Ghosts M.Denot W.Denot S.Denot T.Denot) where
  core_send : IsSend N → IsSend S → IsSync M → IsSend (core.the_field a W M N S T w m).row
  core_send n s y =
      let O = core.the_type a W M N S T w m in
      let all : AllSend (fields O) = (search sendable, (n, (outboxes_send a W M S T w m s y, (outputs.the_send, tt)))) in
      struct_send (shape O) all

  pub executor_send : (p : nodes.Ghosts N.Denot W.Denot) → IsSend N → IsSend S → IsSend T → IsSync M → IsSend (executor.the_row a W M N S T w m p)
  executor_send p n s t y =
      let c = core_send n s y in
      let i = inbox.the_sync W M S T y in
      let O = executor_inside.the_type a W M N S T w m p in
      let all : AllSend (fields O) = (c, (search (sendable, i) depth 20, (t, (owner.the_send, (search sendable, (search sendable, (search sendable, (search sendable, (search sendable, (search sendable, tt)))))))))) in
      view_send _ _ _ _ _ (recorded_send _ _ O.to O.to_one (struct_send (shape O) all))

-- an optional value may go where the value may
optional_field : (A : RattleType) → IsSend A → IsSend (option.the_field A).row
optional_field A a = enum_send (enum.shape (option.the_type A)) (tt, ((a, tt), tt))

optional_send : (A : RattleType) → IsSend A → IsSend (option.the_row A)
optional_send A a =
    let O = option.the_type A in
    recorded_send _ _ O.to O.to_one (optional_field A a)

-- what it leaves may go back
module _ (W M N S T : RattleType) (w : named.Ghosts W.Denot) (m : mailbox.Ghosts M.Denot W.Denot S.Denot T.Denot) (p : nodes.Ghosts N.Denot W.Denot) where
  finished_send : IsSend N → IsSend T → IsSend (finished.the_row W M N S T w m p)
  finished_send n t =
      let O = finished_inside.the_type W M N S T w m p in
      let all : AllSend (fields O) = (search sendable, (n, (owner.the_send, (t, (waiting_send, (optional_field seat_row.the_row seat.the_send, (search sendable, tt))))))) in
      view_send _ _ _ _ _ (recorded_send _ _ O.to O.to_one (struct_send (shape O) all))

  pub left_send : IsSend N → IsSend T → IsSend (option.the_row (finished.the_row W M N S T w m p))
  left_send n t = optional_send (finished.the_row W M N S T w m p) (finished_send n t)

pub parker_send : IsSend (parker_row.the_row (unit-field).row unruled.the_row global_row.the_row (protocol.ghosts (bool-field).row) allocator.ghosts)
parker_send = parker.the_send _ _ _ (protocol.ghosts (bool-field).row) _ global.the_send global.the_sync global_allocator.the_frees

-- a closure may go where its five captures may
pub captured_send : (name : Sym) (A B C D E : RattleType) → IsSend A → IsSend B → IsSend C → IsSend D → IsSend E → IsSend (TupleAt name (A ∷ B ∷ C ∷ D ∷ E ∷ []))
captured_send name A B C D E a b c d e =
    let O = type_at name (A ∷ B ∷ C ∷ D ∷ E ∷ []) in
    let all : AllSend (fields O) = (a, (b, (c, (d, (e, tt))))) in
    recorded_send _ _ O.to O.to_one (struct_send (shape O) all)
