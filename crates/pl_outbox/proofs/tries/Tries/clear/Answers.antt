use Rattle.std.specs.Prelude.{vec_capacity}
use Rattle.pl_outbox.proofs.TryLemmas.{none-tried}
use Rattle.pl_outbox.proofs.tries.Tries.clear.Goals as goal

pub invariant_of-self : goal.invariant_of-self
invariant_of-self c = none-tried (record { tried = c.clear.new.self.items; count = vec_capacity c.clear.new.self }) c.clear.ensures.items
