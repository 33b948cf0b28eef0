use Rattle.std.proofs.Common.{◌∷◌, [], List, length, sym, subst, ap, arith, length-append}
use Rattle.std.specs.List.{IsDistinct}
use Rattle.pl_event.specs.declared.envelopes.Lane.{Lane}
use Rattle.pl_event.specs.Hops.{same_hop}
use Rattle.pl_context.specs.Stops.{StopsView}
use Rattle.pl_context.proofs.Places.{fewer-data, fewer-flags, distinct-data, distinct-flags}
use Rattle.pl_context.proofs.stops.Stops.stop.Goals as goal

pub push_reserved-requires : goal.push_reserved-requires
push_reserved-requires c =
    let less = fewer-data _ _ c.self.view_is c.args.lane c.requires.place c.requires.goes_on c.in-Data.is c.self.invariant.distinct in
    omega (arith, less, c.self.invariant.room, c.self.inside.lanes.ok.0)

pub push_reserved-requires-in-Flags : goal.push_reserved-requires-in-Flags
push_reserved-requires-in-Flags c =
    let less = fewer-flags _ _ c.self.view_is c.args.lane c.requires.place c.requires.goes_on c.in-Flags.is c.self.invariant.flags_distinct in
    omega (arith, less, c.self.invariant.flags_room, c.self.inside.flag_lanes.ok.0)

pub returns-in-Data-clause-place : goal.returns-in-Data-clause-place
returns-in-Data-clause-place c = λ is_data.
    let less = fewer-data _ _ c.self.view_is c.args.lane c.requires.place c.requires.goes_on c.in-Data.is c.self.invariant.distinct in
    omega (arith, less, ap (λ (s : StopsView). length s.lanes) c.self.view_is, ap (λ (s : StopsView). s.places) c.self.view_is)

pub invariant_of-self : goal.invariant_of-self
invariant_of-self c =
    let less = fewer-data _ _ c.self.view_is c.args.lane c.requires.place c.requires.goes_on c.in-Data.is c.self.invariant.distinct in
    record {
      distinct = subst (λ (xs : List Lane). IsDistinct same_hop xs) (sym c.push_reserved.ensures.items)
          (distinct-data _ _ c.self.view_is c.args.lane c.requires.place c.requires.goes_on c.in-Data.is c.self.invariant.distinct);
      flags_distinct = c.self.invariant.flags_distinct;
      few = omega (arith, less, ap (λ (xs : List Lane). length xs) c.push_reserved.ensures.items, length-append c.self.inside.lanes.items (c.args.lane ∷ []));
      room = omega (arith, c.self.invariant.room, c.push_reserved.ensures.capacity);
      flags_room = c.self.invariant.flags_room;
    }

pub invariant_of-self-in-Flags : goal.invariant_of-self-in-Flags
invariant_of-self-in-Flags c = record {
  distinct = c.self.invariant.distinct;
  flags_distinct = subst (λ (xs : List Lane). IsDistinct same_hop xs) (sym c.push_reserved-in-Flags.ensures.items)
      (distinct-flags _ _ c.self.view_is c.args.lane c.requires.place c.requires.goes_on c.in-Flags.is c.self.invariant.flags_distinct);
  few = c.self.invariant.few;
  room = c.self.invariant.room;
  flags_room = omega (arith, c.self.invariant.flags_room, c.push_reserved-in-Flags.ensures.capacity);
}
