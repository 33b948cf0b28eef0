use Rattle.std.proofs.Common.{◌≡◌, ◌+◌, ◌∷◌, [], List, length, subst, arith}
use Rattle.std.specs.Vec.Iter.{into_iter_items}
use Rattle.std.proofs.lemmas.List.{nil_from_length}
use Rattle.pl_event.specs.declared.elements.Element.{Element}
use Rattle.pl_event.specs.declared.events.Event.{Event}
use Rattle.pl_event.specs.declared.envelopes.Item.TheVariants as item
use Rattle.pl_event.specs.Inputs.{burst_events}
use Rattle.pl_context.specs.OutputsViews.{PutsAll}
use Rattle.pl_context.specs.Ports.{as_items, numbered, offered, port_after}
use Rattle.pl_head.proofs.Feeding.{Feeding, feeding-none, feeding-step, feeding-end}
use Rattle.pl_head.proofs.inputs.put_burst.Goals as goal
use Rattle.pl_head.proofs.inputs.put_burst.Goals.{After-put-2}

pub loop-element-init : goal.loop-element-init
loop-element-init c = feeding-none c.args.port.now c.args.outputs.now c.args.elements.items (into_iter_items c.into_iter-element-iterator.result) c.into_iter-element-iterator.ensures.into_iter_gives.0 c.requires.place

pub loop-element-preserved : goal.loop-element-preserved
loop-element-preserved c =
    let P : List Element → Type 0 = λ xs. Feeding c.args.port.now c.loop-element.port c.args.outputs.now c.loop-element.outputs c.args.elements.items xs in
    let given = subst
    (λ (e : Event). (c.put.new.self ≡ port_after (item.Event e ∷ []) c.loop-element.port) × PutsAll c.loop-element.outputs (offered c.loop-element.port (item.Event e ∷ [])) c.put.new.outputs) c.into_event.ensures
    (c.put.ensures.port, c.put.ensures.out) in
    feeding-step c.args.port.now c.loop-element.port c.put.new.self c.args.outputs.now c.loop-element.outputs c.put.new.outputs c.args.elements.items c.next.new.self.rest.items c.in-Some.element
    (subst P c.in-Some.ensures.steps.0 c.loop-element.invariant) c.requires.open given.0 given.1 c.put.ensures.place

-- all of them were given, and then the completion
all-given : (c : After-put-2) → (c.put-2.new.self ≡ record c.args.port.now { made = c.args.port.now.made + length (burst_events c.args.elements.items) })
    × PutsAll c.args.outputs.now (numbered c.args.port.now.lane c.args.port.now.made (as_items (burst_events c.args.elements.items))) c.put-2.new.outputs
all-given c =
    let P : List Element → Type 0 = λ xs. Feeding c.args.port.now c.loop-element.port c.args.outputs.now c.loop-element.outputs c.args.elements.items xs in
    let left = c.loop-element.element-iterator.rest in
    feeding-end c.args.port.now c.loop-element.port c.put-2.new.self c.args.outputs.now c.loop-element.outputs c.put-2.new.outputs c.args.elements.items
    (subst P (nil_from_length left.items (omega (arith, c.in-None.ensures.steps.0, left.ok))) c.loop-element.invariant) c.requires.open c.put-2.ensures.port c.put-2.ensures.out

pub returns-clause-port : goal.returns-clause-port
returns-clause-port c = (all-given (goal.at.returns-clause-port c).After-put-2).0

pub returns-clause-puts : goal.returns-clause-puts
returns-clause-puts c = (all-given (goal.at.returns-clause-puts c).After-put-2).1
