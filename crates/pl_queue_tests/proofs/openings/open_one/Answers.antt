use Rattle.pl_queue.specs.Left.{own_lanes}
use Rattle.pl_queue_tests.proofs.RelayLemmas.{opened_one, opened_one-taker}
use Rattle.pl_queue_tests.proofs.openings.open_one.Goals as goal

pub returns-clause-sender : goal.returns-clause-sender
returns-clause-sender g c =
    let told = c.in_ok-mailbox.ensures.senders in
    opened_one (λ s. g.M.Mailbox.ends.is_sender c.in_ok-mailbox.mailbox s) g.M.Mailbox.ends.sends_of own_lanes c.in_ok-mailbox.senders.items c.pop.new.self.items c.in-Some.sender
    c.in-Ok-from_array.lanes.items c.in-Ok.own c.args.lane told.0 told.1 c.in-Some.ensures.items c.in-Ok-from_array.ensures.items c.in-Ok.ensures.items

pub returns-clause-taker : goal.returns-clause-taker
returns-clause-taker g c =
    let told = c.in_ok-mailbox.ensures.taker in
    (told.0, opened_one-taker own_lanes (g.M.Mailbox.ends.takes_of c.in_ok-mailbox.taker) c.in-Ok-from_array.lanes.items c.in-Ok.own c.args.lane told.1 c.in-Ok-from_array.ensures.items c.in-Ok.ensures.items)
