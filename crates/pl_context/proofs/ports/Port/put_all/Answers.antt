use Rattle.std.proofs.Common.{◌≡◌, false, ◌∷◌, [], List, reverse, sym, ap, subst, ◌∙◌, arith}
use Rattle.std.proofs.lemmas.List.{reverse-append, reverse-reverse, nil_from_length}
use Rattle.pl_event.specs.declared.events.Event.{Event}
use Rattle.pl_event.specs.declared.envelopes.Lane.{Lane}
use Rattle.pl_context.specs.declared.added.Added.TheVariants.{Last}
use Rattle.pl_context.specs.Stops.{StopsView, has_stopped}
use Rattle.pl_context.proofs.PortLemmas.{Putting, port-events, putting-start, putting-step, putting-end}
use Rattle.pl_context.proofs.ports.Port.put_all.Goals as goal

pub loop-event-init : goal.loop-event-init
loop-event-init c =
    let P : List Event → Type 0 = λ xs. Putting c.args.self.now c.args.self.now c.args.outputs.now c.args.outputs.now c.args.events.now.items xs in
    let same = ap (λ (xs : List Event). reverse xs) c.reverse.ensures.items ∙ reverse-reverse c.args.events.now.items in
    subst P (sym same) (putting-start c.args.self.now c.args.outputs.now c.args.events.now.items c.if-not-self.false (c.requires.room c.if-not-self.false))

pub loop-event-preserved : goal.loop-event-preserved
loop-event-preserved c =
    let P : List Event → Type 0 = λ xs. Putting c.args.self.now c.loop-event.self c.args.outputs.now c.loop-event.outputs c.args.events.now.items xs in
    let first = ap (λ (xs : List Event). reverse xs) c.in-Some.ensures.items ∙ reverse-append c.pop.new.self.items (c.in-Some.event ∷ []) in
    putting-step c.args.self.now c.loop-event.self c.args.outputs.now c.loop-event.outputs c.put_reserved.new.self c.args.events.now.items (reverse c.pop.new.self.items) c.in-Some.event Last (subst P first c.loop-event.invariant) c.put_reserved.ensures

pub put_reserved-requires-clause-goes_on : goal.put_reserved-requires-clause-goes_on
put_reserved-requires-clause-goes_on c =
    let S : StopsView → Type 0 = λ s. has_stopped s c.loop-event.self.lane ≡ false in
    let L : Lane → Type 0 = λ l. has_stopped c.args.outputs.now.stopped l ≡ false in
    subst S (sym c.loop-event.invariant.stopped) (subst L (sym c.loop-event.invariant.lane) (sym c.has_stopped_lane.ensures ∙ c.if-has_stopped_lane.false))

pub put_reserved-requires-clause-room : goal.put_reserved-requires-clause-room
put_reserved-requires-clause-room c =
    let P : List Event → Type 0 = λ xs. Putting c.args.self.now c.loop-event.self c.args.outputs.now c.loop-event.outputs c.args.events.now.items xs in
    let first = ap (λ (xs : List Event). reverse xs) c.in-Some.ensures.items ∙ reverse-append c.pop.new.self.items (c.in-Some.event ∷ []) in
    let left : Putting c.args.self.now c.loop-event.self c.args.outputs.now c.loop-event.outputs c.args.events.now.items (c.in-Some.event ∷ reverse c.pop.new.self.items) = subst P first c.loop-event.invariant in
    omega (arith, left.enough)

pub returns-then-has_stopped_lane-clause-port : goal.returns-then-has_stopped_lane-clause-port
returns-then-has_stopped_lane-clause-port c =
    port-events c.args.self.now c.len.result c.args.events.now.items c.if-not-self.false (omega (arith, c.len.ensures, c.args.events.now.ok.0))

pub returns-clause-port : goal.returns-clause-port
returns-clause-port c =
    let P : List Event → Type 0 = λ xs. Putting c.args.self.now c.loop-event.self c.args.outputs.now c.loop-event.outputs c.args.events.now.items xs in
    let none : c.loop-event.events.items ≡ [] = nil_from_length c.loop-event.events.items (omega (arith, c.in_default.ensures.cases.0, c.loop-event.events.ok.0)) in
    (putting-end c.args.self.now c.loop-event.self c.args.outputs.now c.loop-event.outputs c.args.events.now.items c.if-not-self.false (subst P (ap (λ (xs : List Event). reverse xs) none) c.loop-event.invariant)).0

pub returns-clause-out : goal.returns-clause-out
returns-clause-out c =
    let P : List Event → Type 0 = λ xs. Putting c.args.self.now c.loop-event.self c.args.outputs.now c.loop-event.outputs c.args.events.now.items xs in
    let none : c.loop-event.events.items ≡ [] = nil_from_length c.loop-event.events.items (omega (arith, c.in_default.ensures.cases.0, c.loop-event.events.ok.0)) in
    (putting-end c.args.self.now c.loop-event.self c.args.outputs.now c.loop-event.outputs c.args.events.now.items c.if-not-self.false (subst P (ap (λ (xs : List Event). reverse xs) none) c.loop-event.invariant)).1
