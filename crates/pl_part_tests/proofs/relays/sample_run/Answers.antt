use Rattle.pl_part_tests.proofs.relays.sample_run.Goals as goal

pub returns : goal.returns
returns c = c.in_ok-part.ensures.ready c.in_ok-work.work c.in_ok-work.ensures.empty c.in_ok-work.ensures.places
