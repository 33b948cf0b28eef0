use Rattle.std.proofs.Common.{◌≡◌, ◌∷◌, [], ℕ, length, ap, subst, ◌∙◌, arith, length-append}
use Rattle.std.specs.Prelude.{if◌then◌else◌}
use Rattle.pl_context.specs.Stops.{StopsView, any_stopped}
use Rattle.pl_context.specs.OutputsViews.{Appends}
use Rattle.pl_context.specs.Ports.{as_items, offered, put_out}
use Rattle.pl_context.proofs.PortLemmas.{appends-append}
use Rattle.pl_context.proofs.ContextLemmas.{open-count, appends-from, length-put_out, length-offered, none-put, length-items}
use Rattle.pl_context.proofs.contexts.put_changed.Goals as goal

pub hand_on-requires-clause-none : goal.hand_on-requires-clause-none
hand_on-requires-clause-none c = ap (λ (s : StopsView). any_stopped s) c.reserve.ensures.stopped ∙ c.requires.none

pub put_all-requires-clause-room : goal.put_all-requires-clause-room
put_all-requires-clause-room c = λ o.
    let few = length-put_out c.reserve.new.self.stopped c.args.up.now (c.args.envelope.item ∷ []) c.room_for-events_up.result c.room_for-events_up.ensures in
    let own = open-count c.args.down.now.is_open c.len.result c.room_for-events_down.result c.room_for-events_down.ensures o in
    omega (arith, c.in-Ok.ensures.room, c.hand_on.ensures.out.room, few, own, c.len.ensures, c.args.below.now.ok.0)

pub returns-in-Ok-clause-puts : goal.returns-in-Ok-clause-puts
returns-in-Ok-clause-puts c =
    let s = c.reserve.new.self.stopped in
    let above = put_out s c.args.up.now (c.args.envelope.item ∷ []) in
    let below = put_out s c.args.down.now (as_items c.args.below.now.items) in
    record {
      up = c.hand_on.ensures.port;
      down = c.put_all.ensures.port;
      out = appends-from c.args.outputs.now c.reserve.new.self c.put_all.new.outputs c.args.up.now c.args.down.now (c.args.envelope.item ∷ []) (as_items c.args.below.now.items) c.reserve.ensures.items c.reserve.ensures.stopped c.reserve.ensures.grows
          (appends-append c.reserve.new.self c.hand_on.new.outputs c.put_all.new.outputs above below c.hand_on.ensures.out
          (subst (λ (t : StopsView). Appends c.hand_on.new.outputs (put_out t c.args.down.now (as_items c.args.below.now.items)) c.put_all.new.outputs) c.hand_on.ensures.out.stopped c.put_all.ensures.out));
    }

pub returns-in-Err-clause-none : goal.returns-in-Err-clause-none
returns-in-Err-clause-none c =
    let below_len : c.len.result ≡ length (as_items c.args.below.now.items) = omega (arith, c.len.ensures, c.args.below.now.ok.0, length-items c.args.below.now.items) in
    let one = length-offered c.args.up.now (c.args.envelope.item ∷ []) c.room_for-events_up.result c.room_for-events_up.ensures in
    let two = length-offered c.args.down.now (as_items c.args.below.now.items) c.room_for-events_down.result (c.room_for-events_down.ensures ∙ ap (λ (n : ℕ). if c.args.down.now.is_open then n else 0) below_len) in
    none-put (c.args.envelope.item ∷ []) (as_items c.args.below.now.items) c.args.up.now c.args.down.now c.args.outputs.now c.reserve.new.self c.reserve.ensures.items c.reserve.ensures.stopped c.reserve.ensures.grows
    (omega (arith, c.in-Err.ensures.refused, one, two, length-append (offered c.args.up.now (c.args.envelope.item ∷ [])) (offered c.args.down.now (as_items c.args.below.now.items))))
