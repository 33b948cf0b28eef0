use Rattle.std.proofs.Common.{◌+◌, ◌%◌, ◌==◌, refl}
use Rattle.pl_threads_tests.proofs.NodeLemmas.{flag-fits, sends-one, sent-one}
use Rattle.pl_threads_tests.proofs.tests.alone.Feed.push.Goals as goal

pub offer-requires-clause-next : goal.offer-requires-clause-next
offer-requires-clause-next g c =
    let f = c.flag_to-flag.ensures in
    sent-one (g.M.Mailbox.ends.sends_of c.self.inside.way.sender).send_counts c.flag_to-flag.result c.self.inside.executor c.self.inside.next c.self.invariant.1 f.lane f.number

pub offer-requires-clause-fits : goal.offer-requires-clause-fits
offer-requires-clause-fits g c =
    let f = c.flag_to-flag.ensures in
    flag-fits g.W.Named.world c.flag_to-flag.result c.self.inside.executor c.self.inside.next f.lane f.number f.item

pub invariant_of-self : goal.invariant_of-self
invariant_of-self g c =
    let f = c.flag_to-flag.ensures in
    let sent = c.in-Ok.ensures.sent in (
      c.in-Ok.ensures.sender,
      sends-one (g.M.Mailbox.ends.sends_of c.self.inside.way.sender) (g.M.Mailbox.ends.sends_of c.offer.new.sender) c.flag_to-flag.result c.self.inside.executor c.self.inside.next (c.self.inside.next + 1) (c.self.inside.next % 2 == 1)
          c.self.invariant.1 f.lane f.number f.item sent refl,
      c.self.invariant.2,
    )
