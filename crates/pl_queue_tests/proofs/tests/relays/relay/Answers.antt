use Rattle.std.proofs.Common.{◌∙◌}
use Rattle.pl_queue_tests.proofs.RelayLemmas.{both-senders}
use Rattle.pl_queue_tests.proofs.tests.relays.relay.Goals as goal

pub finish-requires-clause-all : goal.finish-requires-clause-all
finish-requires-clause-all g c =
    let opened = c.in-Ok.ensures in
    let end = c.all_three-one.result in
    let ran = c.all_three-one.ensures in
    both-senders g.M.Mailbox.ends.sends_of c.new-senders.result.items c.push.new.self.items c.push-2.new.self.items end.0.0 end.1.0 (g.M.Mailbox.ends.takes_of end.2.0) c.args.lanes.first c.args.lanes.second
    c.new-senders.ensures.items c.in-Ok-push.ensures.items c.in-Ok-push-2.ensures.items (ran.one.1 ∙ opened.one.1.1) (ran.two.1 ∙ opened.two.1.1) (ran.taker.1 ∙ opened.taker.1)
