use Rattle.pl_threads_tests.proofs.tests.alone.set_apart.Goals as goal

-- the way by which flags come
pub new-requires : goal.new-requires
new-requires g c = c.requires.places.of_first.third c.inbox_of.result.now c.inbox_of.ensures

-- the ends of the others' inboxes
pub new-requires-2-clause-taker : goal.new-requires-2-clause-taker
new-requires-2-clause-taker g c = (c.requires.places.of_first.own c.inbox_of-2.result.now c.inbox_of-2.ensures).taker

pub new-requires-2-clause-owner : goal.new-requires-2-clause-owner
new-requires-2-clause-owner g c = (c.requires.places.of_first.own c.inbox_of-2.result.now c.inbox_of-2.ensures).owner

pub new-requires-3-clause-taker : goal.new-requires-3-clause-taker
new-requires-3-clause-taker g c = (c.requires.places.of_second.own c.inbox_of-3.result.now c.inbox_of-3.ensures).taker

pub new-requires-3-clause-owner : goal.new-requires-3-clause-owner
new-requires-3-clause-owner g c = (c.requires.places.of_second.own c.inbox_of-3.result.now c.inbox_of-3.ensures).owner
