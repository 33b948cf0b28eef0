use Rattle.std.proofs.Common.{ap, ◌∙◌}
use Rattle.pl_queue_tests.specs.Relays.{taking_lanes}
use Rattle.pl_queue_tests.proofs.RelayLemmas.{taken-lanes-stay}
use Rattle.pl_queue_tests.proofs.tests.relays.take_one.Goals as goal

pub returns-in-Some : goal.returns-in-Some
returns-in-Some g c = (
  c.in-Some.ensures.taker,
  ap taking_lanes c.in-Some.ensures.taken.3 ∙ taken-lanes-stay (g.M.Mailbox.ends.takes_of c.loop.taker) c.in-Some.envelope ∙ ap taking_lanes c.loop.invariant.same,
)
