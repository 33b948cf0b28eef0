use Rattle.pl_post_tests.proofs.tests.loads.send_next.Goals as goal

pub send-requires-clause-fits : goal.send-requires-clause-fits
send-requires-clause-fits g c = c.envelope.ensures.fits g.W.Named.world c.requires.world
