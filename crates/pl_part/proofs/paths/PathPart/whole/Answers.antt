use Rattle.std.proofs.Common.{◌≡◌, ◌+◌, ◌<◌, ℕ, [], ◌∷◌, ◌++◌, List, Option, None, Some, length, refl, ap, ap₂, sym, subst, ◌∙◌, arith, append_assoc, length-append}
use Rattle.std.specs.List.{sum_by}
use Rattle.std.proofs.lemmas.List.Sums.{sum_by_push}
use Rattle.std.proofs.lemmas.Option.{same_Some}
use Rattle.pl_event.specs.declared.events.Event.{Event}
use Rattle.pl_event.specs.Hops.{data_lane}
use Rattle.pl_event.specs.Worlds.{content_of}
use Rattle.pl_context.specs.ContextViews.{ContextView, IsHop}
use Rattle.pl_context.specs.TailViews.{TailView}
use Rattle.pl_part.specs.Counts.{slot_done, tail_done}
use Rattle.pl_part.specs.TailHolds.{TailHolds}
use Rattle.pl_part.specs.NewParts.{ArePlanned, AreNewSlots, new_slots}
use Rattle.pl_part.proofs.NewContexts.{none-new, none-push}
use Rattle.pl_part.proofs.TailSteps.{new-holds}
use Rattle.pl_part.proofs.paths.PathPart.whole.Goals as goal
use Rattle.pl_event.specs.declared.limits.TheConstants.{MAX_ITEMS}

pub add_contexts-requires-clause-hops : goal.add_contexts-requires-clause-hops
add_contexts-requires-clause-hops g c = λ i stage e.
    let none = ap (λ (l : List (Option (ContextView g.row.S.Denot))). length l) c.new-contexts.ensures.items in
    let first : 0 + i ≡ length c.new-contexts.result.items + i = omega (arith, none) in
    let k : length c.args.inbound.items ≡ c.len-k.result = omega (arith, c.len-k.ensures, c.args.inbound.ok.0) in
    subst (λ (y : ℕ × ℕ). IsHop (g.S.Stage.meaning stage).direction y.0 y.1) (λ j. (first j, k j)) (c.requires.stages.planned.1.planned_inbound i stage e).at

pub add_contexts-requires-2-clause-few : goal.add_contexts-requires-2-clause-few
add_contexts-requires-2-clause-few g c =
    let none = ap (λ (l : List (Option (ContextView g.row.S.Denot))). length l) c.new-contexts.ensures.items in
    let more = ap (λ (l : List (Option (ContextView g.row.S.Denot))). length l) c.in_ok-push.ensures.items in
    let sum = length-append c.add_contexts.new.contexts.items (None ∷ []) in
    omega (arith, none, more, sum, c.in_ok-add_contexts.ensures.count, c.requires.few)

pub add_contexts-requires-2-clause-hops : goal.add_contexts-requires-2-clause-hops
add_contexts-requires-2-clause-hops g c = λ i stage e.
    let none = ap (λ (l : List (Option (ContextView g.row.S.Denot))). length l) c.new-contexts.ensures.items in
    let more = ap (λ (l : List (Option (ContextView g.row.S.Denot))). length l) c.in_ok-push.ensures.items in
    let sum = length-append c.add_contexts.new.contexts.items (None ∷ []) in
    let first : length c.args.inbound.items + 1 + i ≡ length c.push.new.self.items + i = omega (arith, none, more, sum, c.in_ok-add_contexts.ensures.count) in
    let k : length c.args.inbound.items ≡ c.len-k.result = omega (arith, c.len-k.ensures, c.args.inbound.ok.0) in
    subst (λ (y : ℕ × ℕ). IsHop (g.S.Stage.meaning stage).direction y.0 y.1) (λ j. (first j, k j)) (c.requires.stages.planned.1.planned_outbound i stage e).at

pub invariant_of-result : goal.invariant_of-result
invariant_of-result g c =
    let none = ap (λ (l : List (Option (ContextView g.row.S.Denot))). length l) c.new-contexts.ensures.items in
    let more = ap (λ (l : List (Option (ContextView g.row.S.Denot))). length l) c.in_ok-push.ensures.items in
    let sum = length-append c.add_contexts.new.contexts.items (None ∷ []) in
    let k : length c.args.inbound.items ≡ c.len-k.result = omega (arith, c.len-k.ensures, c.args.inbound.ok.0) in
    record {
      hops_are = omega (arith, none, more, sum, c.in_ok-add_contexts.ensures.count, c.in_ok-add_contexts-2.ensures.count, c.requires.hops);
      few = omega (arith, none, more, sum, c.in_ok-add_contexts.ensures.count, c.in_ok-add_contexts-2.ensures.count, c.requires.few);
      within = omega (arith, none, more, sum, k, c.in_ok-add_contexts.ensures.count, c.in_ok-add_contexts-2.ensures.count);
      turned = omega (arith, k, c.requires.turn);
    }

pub returns-clause-contexts : goal.returns-clause-contexts
returns-clause-contexts g c =
    let Slots = List (Option (ContextView g.row.S.Denot)) in
    let meaning = g.S.Stage.meaning in
    let channel = c.args.channel in
    let none = ap (λ (l : Slots). length l) c.new-contexts.ensures.items in
    let more = ap (λ (l : Slots). length l) c.in_ok-push.ensures.items in
    let sum = length-append c.add_contexts.new.contexts.items (None ∷ []) in
    let k : c.len-k.result ≡ length c.args.inbound.items = omega (arith, c.len-k.ensures, c.args.inbound.ok.0) in
    let first : length c.push.new.self.items ≡ length c.args.inbound.items + 1 = omega (arith, none, more, sum, c.in_ok-add_contexts.ensures.count) in
    let above = c.in_ok-add_contexts.ensures.slots ∙ ap (λ (l : Slots). l ++ new_slots meaning channel c.len-k.result (length l) c.args.inbound.items) c.new-contexts.ensures.items
    ∙ ap (λ (n : ℕ). new_slots meaning channel n 0 c.args.inbound.items) k in
    let below = ap₂ (λ (n h : ℕ). new_slots meaning channel n h c.args.outbound.items) k first in
    c.in_ok-add_contexts-2.ensures.slots
    ∙ ap₂ (λ (l m : Slots). l ++ m) (c.in_ok-push.ensures.items ∙ ap (λ (l : Slots). l ++ None ∷ []) above) below
    ∙ append_assoc (new_slots meaning channel (length c.args.inbound.items) 0 c.args.inbound.items) (None ∷ []) (new_slots meaning channel (length c.args.inbound.items) (length c.args.inbound.items + 1) c.args.outbound.items)

pub returns-clause-new : goal.returns-clause-new
returns-clause-new g c = λ world planned.
    let meaning = g.S.Stage.meaning in
    let stands = g.S.Stage.stands_after in
    let channel = c.args.channel in
    let turn = c.args.turn in
    let none = ap (λ (l : List (Option (ContextView g.row.S.Denot))). length l) c.new-contexts.ensures.items in
    let more = ap (λ (l : List (Option (ContextView g.row.S.Denot))). length l) c.in_ok-push.ensures.items in
    let sum = length-append c.add_contexts.new.contexts.items (None ∷ []) in
    let k : length c.args.inbound.items ≡ c.len-k.result = omega (arith, c.len-k.ensures, c.args.inbound.ok.0) in
    let zero : 0 ≡ length c.new-contexts.result.items = sym none in
    let first : length c.args.inbound.items + 1 ≡ length c.push.new.self.items = omega (arith, none, more, sum, c.in_ok-add_contexts.ensures.count) in
    let inbound = subst (λ (y : ℕ × ℕ). ArePlanned world meaning channel y.1 turn y.0 c.args.inbound.items) (λ j. (zero j, k j)) planned.planned_inbound in
    let outbound = subst (λ (y : ℕ × ℕ). ArePlanned world meaning channel y.1 turn y.0 c.args.outbound.items) (λ j. (first j, k j)) planned.planned_outbound in
    let one = c.in_ok-add_contexts.ensures.new world turn inbound (none-new world meaning channel c.len-k.result turn stands c.new-contexts.result.items c.new-contexts.ensures.items) in
    let two = subst (λ (l : List (Option (ContextView g.row.S.Denot))). AreNewSlots world meaning channel c.len-k.result turn stands l) (sym c.in_ok-push.ensures.items)
    (none-push world meaning channel c.len-k.result turn stands c.add_contexts.new.contexts.items one) in
    subst (λ (n : ℕ). AreNewSlots world meaning channel n turn stands c.add_contexts-2.new.contexts.items) (sym k) (c.in_ok-add_contexts-2.ensures.new world turn outbound two)

pub returns-clause-holds : goal.returns-clause-holds
returns-clause-holds g c = λ world planned.
    let k : length c.args.inbound.items ≡ c.len-k.result = omega (arith, c.len-k.ensures, c.args.inbound.ok.0) in
    let are = subst (λ (n : ℕ). AreNewSlots world g.S.Stage.meaning c.args.channel n c.args.turn g.S.Stage.stands_after c.add_contexts-2.new.contexts.items) k (returns-clause-new g c world planned) in
    let tail = subst (λ (n : ℕ). (events : List Event) × (content_of world (data_lane c.args.channel n) ≡ Some events) × (length events + 1 < MAX_ITEMS)) k planned.planned_tail in
    record {
      contexts = λ hop x found. let n = are hop x found in (n.holds, n.at);
      tail = λ t found.
          subst (λ (y : TailView). TailHolds world y × (y.channel ≡ c.args.channel) × (y.hop ≡ c.len-k.result)) (sym c.new.ensures ∙ same_Some c.new.result t found)
          (record { events = tail.0; holds = new-holds world c.args.channel c.len-k.result tail.0 tail.1 tail.2 }, refl, refl);
      few = (invariant_of-result g c).few;
    }

pub returns-clause-done : goal.returns-clause-done
returns-clause-done g c =
    let done = (λ (l : List (Option (ContextView g.row.S.Denot))). sum_by (λ slot. slot_done slot) l) in
    let none = ap done c.new-contexts.ensures.items in
    let more = ap done c.in_ok-push.ensures.items ∙ sum_by_push (λ slot. slot_done slot) c.add_contexts.new.contexts.items None in
    let tail = ap (λ (t : TailView). tail_done t) c.new.ensures in
    omega (arith, none, more, tail, c.in_ok-add_contexts.ensures.done, c.in_ok-add_contexts-2.ensures.done)
