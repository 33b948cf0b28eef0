use Rattle.std.proofs.Common.{ap, sym}
use Rattle.pl_queue_tests.specs.Relays.{event_at as the_event_at}
use Rattle.pl_queue_tests.proofs.RelayLemmas.{later-event}
use Rattle.pl_queue_tests.proofs.events.event_at.Goals as goal

pub returns-then-number-eq0 : goal.returns-then-number-eq0
returns-then-number-eq0 c = ap the_event_at (sym c.if-number-eq0.true)

pub returns-else-number-eq0 : goal.returns-else-number-eq0
returns-else-number-eq0 c = later-event c.args.number c.if-number-eq0.false
