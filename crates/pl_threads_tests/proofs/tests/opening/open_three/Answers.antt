use Rattle.pl_threads_tests.proofs.StartLemmas.{opened-are-places}
use Rattle.pl_threads_tests.proofs.tests.opening.open_three.Goals as goal

pub returns : goal.returns
returns g c = opened-are-places g.M.Mailbox.ends c.in_ok-inboxes.ensures c.in_ok-first.ensures c.in_ok-second.ensures c.in_ok-third.ensures c.place.ensures c.place-2.ensures c.place-3.ensures
