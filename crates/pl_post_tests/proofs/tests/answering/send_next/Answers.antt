use Rattle.std.proofs.Common.{ap}
use Rattle.pl_event.specs.declared.envelopes.Lane.{Lane}
use Rattle.pl_queue_tests.proofs.RelayLemmas.{flag-fits, now-sent}
use Rattle.pl_post_tests.proofs.tests.answering.send_next.Goals as goal

pub send-requires-clause-fits : goal.send-requires-clause-fits
send-requires-clause-fits g c = flag-fits g.W.Named.world c.lane.result c.args.next.now c.flag.result (ap (λ (l : Lane). l.kind) c.lane.ensures) c.flag.ensures

pub returns-in-Ok-clause-next : goal.returns-in-Ok-clause-next
returns-in-Ok-clause-next g c =
    now-sent 0 0 c.args.next.now (g.M.Mailbox.ends.sends_of c.args.seat.now.sender) (g.M.Mailbox.ends.sends_of c.send.new.seat.sender) c.lane.result c.flag.result c.lane.ensures c.flag.ensures c.in-Ok.ensures.sent.0 c.requires.next
