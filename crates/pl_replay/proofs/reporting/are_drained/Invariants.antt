use Rattle.std.proofs.Common.{take}
use Rattle.pl_replay.specs.Reported.{AreDrained}
use Rattle.pl_replay.proofs.reporting.are_drained.Given as goal

-- Whether the parts so far are drained.
abbrev pub invariant-loop-part : goal.invariant-loop-part
invariant-loop-part g l = AreDrained g.T.Transport.state (take l.part-index l.parts) l.drained
