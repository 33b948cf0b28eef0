use Rattle.std.proofs.Common.{arith}
use Rattle.pl_context.proofs.tails.Tail.take_item.Goals as goal

pub take_open-requires : goal.take_open-requires
take_open-requires c = record { room = omega (arith, c.self.invariant.recorded_within, c.self.inside.events.ok.0) }
