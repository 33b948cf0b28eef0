use Rattle.std.proofs.Common.{length, reverse}
use Rattle.pl_context.proofs.PortLemmas.{Putting}
use Rattle.pl_context.proofs.ports.Port.put_all.Given as goal

abbrev pub invariant-loop-event : goal.invariant-loop-event
invariant-loop-event l = Putting l.fn.self l.self l.fn.outputs l.outputs l.fn.events.items (reverse l.events.items)

abbrev pub decreases-loop-event : goal.decreases-loop-event
decreases-loop-event l = length l.events.items
