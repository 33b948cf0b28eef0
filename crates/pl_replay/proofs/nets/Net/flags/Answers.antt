use Rattle.pl_replay.proofs.nets.Net.flags.Goals as goal

pub returns : goal.returns
returns g c = let tail = c.in_ok-tail.ensures in (tail.0, c.in_ok-tail.tail.now, tail.1, tail.2, c.flags.ensures)
