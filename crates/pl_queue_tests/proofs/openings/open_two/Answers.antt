use Rattle.pl_queue.specs.Left.{own_lanes}
use Rattle.pl_queue_tests.specs.Relays.{IsFresh}
use Rattle.pl_queue_tests.proofs.RelayLemmas.{opened_two, opened_taker}
use Rattle.pl_queue_tests.proofs.openings.open_two.Goals as goal
use Rattle.pl_queue_tests.proofs.openings.open_two.Goals.{In-Some-pop}

-- both senders
senders : (g : _) (c : In-Some-pop g)
    → (g.M.Mailbox.ends.is_sender c.in_ok-mailbox.mailbox c.in-Some-pop.one × IsFresh c.args.first (g.M.Mailbox.ends.sends_of c.in-Some-pop.one))
    × (g.M.Mailbox.ends.is_sender c.in_ok-mailbox.mailbox c.in-Some.two × IsFresh c.args.second (g.M.Mailbox.ends.sends_of c.in-Some.two))
senders g c =
    let told = c.in_ok-mailbox.ensures.senders in
    opened_two (λ s. g.M.Mailbox.ends.is_sender c.in_ok-mailbox.mailbox s) g.M.Mailbox.ends.sends_of own_lanes c.in_ok-mailbox.senders.items c.pop.new.self.items c.pop-2.new.self.items
    c.in-Some-pop.one c.in-Some.two c.in-Ok-from_array-2.lanes.items c.in-Ok.one c.in-Ok-from_array.two c.args.first c.args.second
    told.0 told.1 c.in-Some.ensures.items c.in-Some-pop.ensures.items c.in-Ok-from_array-2.ensures.items c.in-Ok.ensures.items c.in-Ok-from_array.ensures.items

pub returns-clause-one : goal.returns-clause-one
returns-clause-one g c = (senders g (goal.at.returns-clause-one g c).In-Some-pop).0

pub returns-clause-two : goal.returns-clause-two
returns-clause-two g c = (senders g (goal.at.returns-clause-two g c).In-Some-pop).1

pub returns-clause-taker : goal.returns-clause-taker
returns-clause-taker g c =
    let told = c.in_ok-mailbox.ensures.taker in (
      told.0,
      opened_taker own_lanes (g.M.Mailbox.ends.takes_of c.in_ok-mailbox.taker) c.in-Ok-from_array-2.lanes.items c.in-Ok.one c.in-Ok-from_array.two c.args.first c.args.second
          told.1 c.in-Ok-from_array-2.ensures.items c.in-Ok.ensures.items c.in-Ok-from_array.ensures.items,
    )
