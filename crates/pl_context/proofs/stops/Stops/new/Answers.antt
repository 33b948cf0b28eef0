use Rattle.std.proofs.Common.{List, length, sym, subst, ap, arith}
use Rattle.std.specs.List.{IsDistinct}
use Rattle.pl_event.specs.declared.envelopes.Lane.{Lane}
use Rattle.pl_event.specs.Hops.{same_hop}
use Rattle.pl_context.proofs.Places.{distinct-nil}
use Rattle.pl_context.proofs.stops.Stops.new.Goals as goal

pub invariant_of-result : goal.invariant_of-result
invariant_of-result c =
    let D : List Lane → Type 0 = λ xs. IsDistinct same_hop xs in
    let none = c.in_ok-with_capacity.ensures.items in
    let none_of_flags = c.in_ok-with_capacity-2.ensures.items in
    record {
      distinct = subst D (sym none) distinct-nil;
      flags_distinct = subst D (sym none_of_flags) distinct-nil;
      few = omega (arith, ap (λ (xs : List Lane). length xs) none);
      room = c.in_ok-with_capacity.ensures.capacity;
      flags_room = c.in_ok-with_capacity-2.ensures.capacity;
    }
