use Rattle.pl_channel.specs.WholeParts.{AreWholeParts}
use Rattle.pl_channel.proofs.recorded_parts.whole_parts.Given as goal

-- the channels so far have their parts
abbrev pub invariant-loop-record : goal.invariant-loop-record
invariant-loop-record g l = AreWholeParts g.S.Stage.meaning g.S.Stage.stands_after g.T.Transport.state l.yielded l.parts.items
