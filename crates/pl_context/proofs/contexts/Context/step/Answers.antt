use Rattle.std.proofs.lemmas.Result.{on_ok_weaker, on_err_weaker}
use Rattle.std.proofs.Common.{◌++◌, ◌∷◌, [], List, length, sym, ap, subst, ◌∙◌, arith, length-append}
use Rattle.pl_event.specs.declared.events.Event.{Event}
use Rattle.pl_event.specs.declared.stages.Turned.{Turned}
use Rattle.pl_event.specs.Meaning.{turned_after}
use Rattle.pl_context.specs.Stops.{HasPlaces}
use Rattle.pl_context.specs.Ports.{as_items, end_after}
use Rattle.pl_context.specs.ContextViews.{ContextView, open_lanes}
use Rattle.pl_context.specs.Contexts.{IsSmall}
use Rattle.pl_context.proofs.Places.{places-up, places-down}
use Rattle.pl_context.proofs.ContextLemmas.{all-made, runs-from, length-items, offers-made}
use Rattle.pl_context.proofs.contexts.Context.step.Goals as goal

pub put_made-requires-clause-place_up : goal.put_made-requires-clause-place_up
put_made-requires-clause-place_up g c = λ o.
    let P : ContextView g.row.S.Denot → Type 0 = λ s. HasPlaces c.args.outputs.now.stopped (open_lanes s) in
    places-up c.args.outputs.now.stopped c.self.inside.up c.self.inside.down c.self.inside.flags (subst P (sym c.self.view_is) c.requires.places) o

pub put_made-requires-clause-place_down : goal.put_made-requires-clause-place_down
put_made-requires-clause-place_down g c = λ o.
    let P : ContextView g.row.S.Denot → Type 0 = λ s. HasPlaces c.args.outputs.now.stopped (open_lanes s) in
    places-down c.args.outputs.now.stopped c.self.inside.up c.self.inside.down c.self.inside.flags (subst P (sym c.self.view_is) c.requires.places) o

pub put_made-requires-clause-few_up : goal.put_made-requires-clause-few_up
put_made-requires-clause-few_up g c = λ o.
    let Few : ContextView g.row.S.Denot → Type 0 = λ s. (xs : List Event) × IsSmall g.S.Stage.meaning g.S.Stage.stands_after s.stage s.up s.down xs c.args.event in
    let few = subst Few (sym c.self.view_is) c.requires.few in
    let made = ap (λ (ys : List Event). length ys) (all-made (c.in_ok-turned.ensures.up few.0 few.1.stands) c.self.invariant.up_empty) in
    omega (arith, few.1.above o, made, length-items ((g.S.Stage.meaning c.self.inside.stage).up few.0 c.args.event))

pub put_made-requires-clause-few_down : goal.put_made-requires-clause-few_down
put_made-requires-clause-few_down g c = λ o.
    let Few : ContextView g.row.S.Denot → Type 0 = λ s. (xs : List Event) × IsSmall g.S.Stage.meaning g.S.Stage.stands_after s.stage s.up s.down xs c.args.event in
    let few = subst Few (sym c.self.view_is) c.requires.few in
    let made = ap (λ (ys : List Event). length ys) (all-made (c.in_ok-turned.ensures.down few.0 few.1.stands) c.self.invariant.down_empty) in
    let m = g.S.Stage.meaning c.self.inside.stage in
    let end = ap (λ (t : Turned). length (end_after t)) (c.in_ok-turned.ensures.turned few.0 few.1.stands) in
    omega (arith, few.1.below o, made, end, length-items (m.down few.0 c.args.event), length-append (as_items (m.down few.0 c.args.event)) (end_after (turned_after m (few.0 ++ c.args.event ∷ []))))

pub invariant_of-self : goal.invariant_of-self
invariant_of-self g c =
    assumption (c.in_err-turned.ensures.up_kept ∙ c.self.invariant.up_empty, c.in_err-turned.ensures.down_kept ∙ c.self.invariant.down_empty, c.self.invariant)

pub returns-clause-why : goal.returns-clause-why
returns-clause-why g c =
    rw (← c.self.view_is)
    (on_err_weaker c.put_made.result
    (λ none unspent xs h. offers-made (g.S.Stage.meaning c.self.inside.stage) xs c.args.event c.self.inside.up c.self.inside.down c.step.new.up.items c.step.new.down.items c.in_ok-turned.turned c.args.outputs.now.room
    (all-made (c.in_ok-turned.ensures.up xs h) c.self.invariant.up_empty) (all-made (c.in_ok-turned.ensures.down xs h) c.self.invariant.down_empty) (c.in_ok-turned.ensures.turned xs h) none.why) c.put_made.ensures.none)

pub returns-clause-runs : goal.returns-clause-runs
returns-clause-runs g c =
    rw (← c.self.view_is)
    (on_ok_weaker c.put_made.result
    (λ puts. runs-from g.S.Stage.meaning g.S.Stage.stands_after _ c.args.event c.args.outputs.now c.put_made.new.outputs c.step.new.self c.put_made.new.up c.put_made.new.down c.step.new.up.items c.step.new.down.items c.in_ok-turned.turned
    c.in_ok-turned.ensures.stands c.step.ensures.same_meaning (λ xs h. all-made (c.in_ok-turned.ensures.up xs h) c.self.invariant.up_empty) (λ xs h. all-made (c.in_ok-turned.ensures.down xs h) c.self.invariant.down_empty) c.in_ok-turned.ensures.turned puts.up puts.down puts.out) c.put_made.ensures.puts)
