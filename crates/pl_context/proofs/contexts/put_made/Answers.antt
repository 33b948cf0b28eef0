use Rattle.std.proofs.Common.{◌≡◌, ◌+◌, ◌++◌, ℕ, length, ap, ◌∙◌, arith, length-append}
use Rattle.std.specs.Prelude.{if◌then◌else◌}
use Rattle.pl_context.specs.Ports.{as_items, end_after, offered}
use Rattle.pl_context.proofs.ContextLemmas.{open-count, sum-count, port_after-downs, runs-out-list, appends-from, length-put_out, length-offered, none-put, was-open, length-items}
use Rattle.pl_context.proofs.contexts.put_made.Goals as goal

pub returns-in-Ok-clause-puts : goal.returns-in-Ok-clause-puts
returns-in-Ok-clause-puts c = record {
  up = c.put_all.ensures.port;
  down = port_after-downs c.args.down.now c.put_all-in-Ok.new.self c.end_if.new.self c.args.below.now.items c.args.turned c.put_all-in-Ok.ensures.port c.end_if.ensures.port;
  out = appends-from c.args.outputs.now c.reserve.new.self c.end_if.new.outputs c.args.up.now c.args.down.now (as_items c.args.above.now.items) (as_items c.args.below.now.items ++ end_after c.args.turned) c.reserve.ensures.items c.reserve.ensures.stopped c.reserve.ensures.grows
      (runs-out-list c.reserve.new.self c.put_all.new.outputs c.put_all-in-Ok.new.outputs c.end_if.new.outputs c.args.up.now c.args.down.now c.put_all-in-Ok.new.self c.args.above.now.items c.args.below.now.items c.args.turned c.put_all.ensures.out c.put_all-in-Ok.ensures.out c.end_if.ensures.out c.put_all-in-Ok.ensures.port);
}

pub returns-in-Err-clause-none : goal.returns-in-Err-clause-none
returns-in-Err-clause-none c =
    let up_len : c.len.result ≡ length (as_items c.args.above.now.items) = omega (arith, c.len.ensures, c.args.above.now.ok.0, length-items c.args.above.now.items) in
    let up_places = c.room_for-events_up.ensures ∙ ap (λ (n : ℕ). if c.args.up.now.is_open then n else 0) up_len in
    let below = as_items c.args.below.now.items ++ end_after c.args.turned in
    let down_len : c.len-2.result + c.ends_of.result ≡ length below = omega (arith, c.len-2.ensures, c.args.below.now.ok.0, length-items c.args.below.now.items, c.ends_of.ensures, length-append (as_items c.args.below.now.items) (end_after c.args.turned)) in
    let down_places = sum-count c.args.down.now.is_open c.len-2.result c.ends_of.result c.room_for-events_down.result c.room_for-end.result c.room_for-events_down.ensures c.room_for-end.ensures ∙ ap (λ (n : ℕ). if c.args.down.now.is_open then n else 0) down_len in
    let one = length-offered c.args.up.now (as_items c.args.above.now.items) c.room_for-events_up.result up_places in
    let two = length-offered c.args.down.now below (c.room_for-events_down.result + c.room_for-end.result) down_places in
    none-put (as_items c.args.above.now.items) below c.args.up.now c.args.down.now c.args.outputs.now c.reserve.new.self c.reserve.ensures.items c.reserve.ensures.stopped c.reserve.ensures.grows
    (omega (arith, c.in-Err.ensures.refused, one, two, length-append (offered c.args.up.now (as_items c.args.above.now.items)) (offered c.args.down.now below)))

pub put_all-requires-in-Ok-clause-room : goal.put_all-requires-in-Ok-clause-room
put_all-requires-in-Ok-clause-room c = λ o.
    let up_len : c.len.result ≡ length (as_items c.args.above.now.items) = omega (arith, c.len.ensures, c.args.above.now.ok.0, length-items c.args.above.now.items) in
    let up_places = c.room_for-events_up.ensures ∙ ap (λ (n : ℕ). if c.args.up.now.is_open then n else 0) up_len in
    let few = length-put_out c.reserve.new.self.stopped c.args.up.now (as_items c.args.above.now.items) c.room_for-events_up.result up_places in
    let down_places = open-count c.args.down.now.is_open c.len-2.result c.room_for-events_down.result c.room_for-events_down.ensures o in
    omega (arith, c.in-Ok.ensures.room, c.put_all.ensures.out.room, few, down_places, c.len-2.ensures, c.args.below.now.ok.0)

pub end_if-requires-clause-room : goal.end_if-requires-clause-room
end_if-requires-clause-room c = λ o.
    let was = was-open c.args.down.now c.put_all-in-Ok.new.self (as_items c.args.below.now.items) c.put_all-in-Ok.ensures.port o in
    let up_len : c.len.result ≡ length (as_items c.args.above.now.items) = omega (arith, c.len.ensures, c.args.above.now.ok.0, length-items c.args.above.now.items) in
    let up_places = c.room_for-events_up.ensures ∙ ap (λ (n : ℕ). if c.args.up.now.is_open then n else 0) up_len in
    let few = length-put_out c.reserve.new.self.stopped c.args.up.now (as_items c.args.above.now.items) c.room_for-events_up.result up_places in
    let down_len : c.len-2.result ≡ length (as_items c.args.below.now.items) = omega (arith, c.len-2.ensures, c.args.below.now.ok.0, length-items c.args.below.now.items) in
    let down_places = c.room_for-events_down.ensures ∙ ap (λ (n : ℕ). if c.args.down.now.is_open then n else 0) down_len in
    let few_down = length-put_out c.put_all.new.outputs.stopped c.args.down.now (as_items c.args.below.now.items) c.room_for-events_down.result down_places in
    let end = open-count c.args.down.now.is_open c.ends_of.result c.room_for-end.result c.room_for-end.ensures was in
    omega (arith, c.in-Ok.ensures.room, c.put_all.ensures.out.room, few, c.put_all-in-Ok.ensures.out.room, few_down, end, c.ends_of.ensures)
