use Rattle.std.specs.Prelude.{vec_capacity}
use Rattle.pl_outbox.proofs.TryLemmas.{none-tried}
use Rattle.pl_outbox.proofs.tries.Tries.new.Goals as goal

pub invariant_of-result : goal.invariant_of-result
invariant_of-result c = none-tried (record { tried = c.in_ok-with_capacity.field-0.items; count = vec_capacity c.in_ok-with_capacity.field-0 }) c.in_ok-with_capacity.ensures.items
