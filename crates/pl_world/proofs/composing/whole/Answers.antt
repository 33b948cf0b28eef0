use Rattle.std.proofs.Common.{◌≡◌, List, ◌∷◌, ◌++◌, map, length, true, false, sym, ap, ◌∙◌}
use Rattle.std.specs.List.{list_any}
use Rattle.std.proofs.lemmas.List.{map-append}
use Rattle.pl_event.specs.declared.events.Event.{Event}
use Rattle.pl_event.specs.Meaning.{Meaning, up_of, down_of}
use Rattle.pl_event.specs.Inputs.{recorded_input}
use Rattle.pl_event.specs.Lanes.{tail_lane, head_lane, through, out_through}
use Rattle.pl_event.specs.Paths.{is_turn}
use Rattle.pl_world.specs.Plans.{channel_planned}
use Rattle.pl_world.specs.Reports.{tail_of, head_of}
use Rattle.pl_head.specs.Writes.{out, outcomes}
use Rattle.pl_event.proofs.Lists.{list_any-map}
use Rattle.pl_world.proofs.SplitChains.{split_new}
use Rattle.pl_world.proofs.PathLanes.{tail_is, head_is}
use Rattle.pl_world.proofs.composing.whole.Goals as goal

pub pass_all-requires : goal.pass_all-requires
pass_all-requires g c =
    let split = c.in_ok-before.field-0 in
    record { new = (split_new g.S.Stage.stands_after c.into_chains-inbound.result.0.items split.before.items split.turn split.after.items c.in_ok-before.ensures.whole c.into_chains-inbound.ensures.new_inbound).0 }

pub pass-requires : goal.pass-requires
pass-requires g c =
    let split = c.in_ok-before.field-0 in
    record { new = (split_new g.S.Stage.stands_after c.into_chains-inbound.result.0.items split.before.items split.turn split.after.items c.in_ok-before.ensures.whole c.into_chains-inbound.ensures.new_inbound).1 }

pub pass_all-requires-2 : goal.pass_all-requires-2
pass_all-requires-2 g c =
    let split = c.in_ok-before.field-0 in
    record { new = (split_new g.S.Stage.stands_after c.into_chains-inbound.result.0.items split.before.items split.turn split.after.items c.in_ok-before.ensures.whole c.into_chains-inbound.ensures.new_inbound).2 }

pub returns-clause-whole : goal.returns-clause-whole
returns-clause-whole g c =
    let meaning = g.S.Stage.meaning in
    let p = channel_planned meaning g.T.Transport.state c.args.recorded in
    let split = c.in_ok-before.field-0 in
    let before : List Meaning = map meaning split.before.items in
    let turn : Meaning = meaning split.turn in
    let after : List Meaning = map meaning split.after.items in
    let input = recorded_input p.bursts in
    let inbound : p.inbound ≡ before ++ turn ∷ after =
    ap (map meaning) (sym c.into_chains-inbound.ensures.inbound ∙ c.in_ok-before.ensures.whole) ∙ map-append meaning split.before.items (split.turn ∷ split.after.items) in
    let outbound : map meaning c.into_chains-inbound.result.1.items ≡ p.outbound = ap (map meaning) c.into_chains-inbound.ensures.outbound in
    let none : list_any (λ (m : Meaning). is_turn m.direction) before ≡ false =
    list_any-map (λ (m : Meaning). is_turn m.direction) meaning split.before.items ∙ c.in_ok-before.ensures.before in
    let at_turn : c.in_ok-at_turn.at_turn.items ≡ through before input = c.in_ok-at_turn.ensures ∙ ap (through before) c.in_ok-events.ensures in
    let up : c.in_ok-made.made.up.items ≡ up_of turn (through before input) = c.in_ok-made.ensures.up ∙ ap (up_of turn) at_turn in
    let down : c.in_ok-made.made.down.items ≡ down_of turn (through before input) = c.in_ok-made.ensures.down ∙ ap (down_of turn) at_turn in
    let tail : c.in_ok-at_tail.at_tail.items ≡ tail_of p =
    c.in_ok-at_tail.ensures ∙ ap (through after) up ∙ sym (tail_is before turn after p.outbound input)
    ∙ ap (λ (ms : List Meaning). tail_lane ms p.outbound input) (sym inbound) in
    let head : c.in_ok-at_head.at_head.items ≡ head_of p =
    c.in_ok-at_head.ensures
    ∙ ap (λ (ms : List Meaning). out_through ms c.in_ok-made.made.down.items) outbound
    ∙ ap (out_through p.outbound) down
    ∙ sym (head_is before turn after p.outbound input none c.in_ok-before.ensures.turn)
    ∙ ap (λ (ms : List Meaning). head_lane ms p.outbound input) (sym inbound) in
    let tail_is_whole = c.from_vec.ensures ∙ tail in
    let bytes = c.in_ok-bytes.ensures.bytes ∙ ap out head in
    let writes = c.in_ok-bytes.ensures.outcomes ∙ ap (λ (ys : List Event). outcomes ys (length (out ys)) true) head in
    cc (tail_is_whole, bytes, writes)
