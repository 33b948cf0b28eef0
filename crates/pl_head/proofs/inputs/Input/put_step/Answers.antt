use Rattle.std.proofs.Common.{◌≡◌, ℕ, ◌+◌, ◌<◌, Bool, true, List, length, sym, ap, ap₂, subst, ◌∙◌, arith, rules}
use Rattle.std.proofs.lemmas.List.{length-map}
use Rattle.pl_event.specs.Inputs.{Bursts, burst_events}
use Rattle.pl_event.specs.declared.events.Event.{Event}
use Rattle.pl_event.specs.declared.envelopes.Item.{Item}
use Rattle.pl_event.specs.declared.envelopes.Item.TheVariants as item
use Rattle.pl_event.specs.declared.elements.Element.{Element}
use Rattle.pl_context.specs.Ports.{all_go_on, port_after}
use Rattle.pl_context.specs.declared.ports.Port.{Port}
use Rattle.pl_context.proofs.PortLemmas.{all_go_on-events}
use Rattle.pl_head.specs.InputStand.{InputView, InputStands, next_items, input_after_step}
use Rattle.pl_head.proofs.ReadSteps.{burst_step, port_after-open, stands_after, items_of_step}
use Rattle.pl_head.proofs.inputs.Input.put_step.Goals as goal
use Rattle.pl_head.proofs.inputs.Input.put_step.Goals.{After-put_burst}

-- a burst more was given
after-burst : (c : After-put_burst) → record { port = c.put_burst.new.port; left = c.pop_front.new.self.items; steps = c.self.inside.steps + 1; aborts = c.self.inside.aborts } ≡ input_after_step c.args.self.now
after-burst c =
    let inside = c.self.inside in
    let port = inside.port in
    let left = inside.left.items in
    let elements = c.in-Some.elements in
    let some : 0 < inside.steps = omega arith in
    let is = burst_step inside.steps left elements c.pop_front.new.self.items some c.in-Some.ensures.items in
    let goes : port.is_open ≡ true = ap (λ (r : InputView). r.port.is_open) c.self.view_is ∙ c.requires.left in
    let count : port.made + length (burst_events c.into_vec.result.items) ≡ port.made + length (next_items inside.steps left) =
    ap (λ (xs : List Element). port.made + length (burst_events xs)) c.into_vec.ensures
    ∙ ap (λ (n : ℕ). port.made + n) (sym (length-map (burst_events elements) (λ (x : Event). item.Event x)))
    ∙ ap (λ (items : List Item). port.made + length items) (sym is.items_are) in
    let given : c.put_burst.new.port ≡ port_after (next_items inside.steps left) port =
    port_after-open (next_items inside.steps left) port c.put_burst.new.port true goes
    (ap all_go_on is.items_are ∙ all_go_on-events (burst_events elements))
    (c.put_burst.ensures.port ∙ ap₂ (λ (n : ℕ) (b : Bool). record port { made = n; is_open = b }) count goes) in
    ap₂ (λ (q : Port) (l : Bursts). record { port = q; left = l; steps = inside.steps + 1; aborts = inside.aborts }) given (sym is.rest_is)
    ∙ ap input_after_step c.self.view_is

pub returns-in-Some-clause-after : goal.returns-in-Some-clause-after
returns-in-Some-clause-after c = after-burst (goal.at.returns-in-Some-clause-after c).After-put_burst

pub returns-in-Some-clause-stands : goal.returns-in-Some-clause-stands
returns-in-Some-clause-stands c = λ p reads failed s.
    subst (λ (r : InputView). InputStands p (reads + 1) failed r) (sym (after-burst (goal.at.returns-in-Some-clause-stands c).After-put_burst)) (stands_after p reads failed c.args.self.now s c.requires.left c.requires.no_abort)

pub returns-in-Some-clause-items : goal.returns-in-Some-clause-items
returns-in-Some-clause-items c = λ p reads failed s. items_of_step p reads failed c.args.self.now s c.requires.left

pub returns-in-None-clause-stands : goal.returns-in-None-clause-stands
returns-in-None-clause-stands c = λ p reads failed s.
    let inside = c.self.inside in
    let after : record { port = c.put-in-None.new.self; left = c.pop_front.new.self.items; steps = inside.steps + 1; aborts = inside.aborts } ≡ input_after_step c.args.self.now = search rules in
    subst (λ (r : InputView). InputStands p (reads + 1) failed r) (sym after) (stands_after p reads failed c.args.self.now s c.requires.left c.requires.no_abort)

pub returns-in-None-clause-items : goal.returns-in-None-clause-items
returns-in-None-clause-items c = λ p reads failed s. items_of_step p reads failed c.args.self.now s c.requires.left
