use Rattle.std.proofs.Common.{sym, subst}
use Rattle.std.proofs.lemmas.Bool.{both_ways}
use Rattle.pl_context.specs.ContextViews.{ContextView, open_lanes}
use Rattle.pl_context.specs.Stops.{HasPlaces}
use Rattle.pl_context.proofs.Places.{places-up, places-down, places-after-up}
use Rattle.pl_context.proofs.ContextLemmas.{closes-from, closed-port}
use Rattle.pl_context.proofs.contexts.Context.close.Goals as goal

pub put-requires-clause-place : goal.put-requires-clause-place
put-requires-clause-place g c = λ o.
    let P : ContextView g.row.S.Denot → Type 0 = λ s. HasPlaces c.args.outputs.now.stopped (open_lanes s) in
    places-up c.args.outputs.now.stopped c.self.inside.up c.self.inside.down c.self.inside.flags (subst P (sym c.self.view_is) c.requires) o

pub put-requires-2-clause-place : goal.put-requires-2-clause-place
put-requires-2-clause-place g c = λ o.
    let P : ContextView g.row.S.Denot → Type 0 = λ s. HasPlaces c.args.outputs.now.stopped (open_lanes s) in
    places-down c.put.new.outputs.stopped c.self.inside.up c.self.inside.down c.self.inside.flags (places-after-up c.args.outputs.now c.put.new.outputs c.self.inside.up c.self.inside.down c.self.inside.flags c.last_item.result (subst P (sym c.self.view_is) c.requires) c.put.ensures.out) o

pub invariant_of-self : goal.invariant_of-self
invariant_of-self g c = record {
  above = λ o. absurd (both_ways c.put.new.self.is_open (closed-port c.args.standing c.self.inside.up c.put.new.self c.last_item.result c.last_item.ensures c.put.ensures.port) o);
  below = λ o. absurd (both_ways c.put-2.new.self.is_open (closed-port c.args.standing c.self.inside.down c.put-2.new.self c.last_item-2.result c.last_item-2.ensures c.put-2.ensures.port) o);
  aside = c.self.invariant.aside;
  counts = c.self.invariant.counts;
  flag_counts = c.self.invariant.flag_counts;
  up_empty = c.self.invariant.up_empty;
  down_empty = c.self.invariant.down_empty;
}

pub returns : goal.returns
returns g c =
    rw (← c.self.view_is)
    (closes-from _ c.args.standing c.args.outputs.now c.put.new.outputs c.put-2.new.outputs c.last_item.result c.last_item-2.result c.put.new.self c.put-2.new.self c.last_item.ensures c.last_item-2.ensures c.put.ensures.port c.put-2.ensures.port c.put.ensures.out c.put-2.ensures.out)
