use Rattle.std.proofs.Common.{ap, ◌∙◌}
use Rattle.pl_queue_tests.specs.Relays.{sending_lanes}
use Rattle.pl_queue_tests.proofs.RelayLemmas.{lanes-stay}
use Rattle.pl_queue_tests.proofs.tests.relays.offer_one.Goals as goal

pub returns-in-Ok-clause-still : goal.returns-in-Ok-clause-still
returns-in-Ok-clause-still g c = (
  c.in-Ok.ensures.sender,
  ap sending_lanes c.in-Ok.ensures.sent ∙ lanes-stay (g.M.Mailbox.ends.sends_of c.loop.sender) c.loop.envelope ∙ ap sending_lanes c.loop.invariant.same,
)
