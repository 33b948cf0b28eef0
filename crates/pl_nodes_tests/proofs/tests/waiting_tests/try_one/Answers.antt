use Rattle.std.proofs.Common.{refl}
use Rattle.pl_nodes_tests.proofs.WaitingLemmas.{waits-still, waits-taken}
use Rattle.pl_nodes_tests.proofs.tests.waiting_tests.try_one.Goals as goal

pub put_back-requires : goal.put_back-requires
put_back-requires c =
    let w = c.requires.waits in
    let t = (c.in-Some.ensures.first w.entries w.holds).taken in
    (w.entries, t.0, _, t.2, refl, t.4)

pub returns-in-Some-clause-waits : goal.returns-in-Some-clause-waits
returns-in-Some-clause-waits c =
    let w = c.requires.waits in
    let takes = c.in-Some.ensures.first w.entries w.holds in
    let t = takes.taken in
    waits-still _ _ (waits-taken _ _ c.args.target _ w takes) c.put_back.ensures.stopped c.put_back.ensures.targets _ (c.put_back.ensures.back w.entries t.0 _ t.2 refl t.4)

pub returns-in_default-clause-waits : goal.returns-in_default-clause-waits
returns-in_default-clause-waits c = waits-taken _ _ c.args.target _ c.requires.waits (c.take.ensures.first c.requires.waits.entries c.requires.waits.holds)
