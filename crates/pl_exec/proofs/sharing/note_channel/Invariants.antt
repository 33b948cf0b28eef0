use Rattle.std.proofs.Common.{take}
use Rattle.pl_exec.specs.Sharing.{AreNoted, rows_in}
use Rattle.pl_exec.proofs.sharing.note_channel.Given as goal

-- It is noted at the executors of the first hops.
abbrev pub invariant-loop-hop : goal.invariant-loop-hop
invariant-loop-hop g l = AreNoted l.channel (take l.hop l.part.path.executors) (rows_in l.fn.rows.items) (rows_in l.rows.items)
