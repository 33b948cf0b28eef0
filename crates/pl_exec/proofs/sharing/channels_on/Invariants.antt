use Rattle.std.proofs.Common.{◌≡◌, map, take}
use Rattle.std.specs.List.{range_with_len}
use Rattle.pl_exec.specs.Sharing.{channels_on, rows_in}
use Rattle.pl_exec.proofs.sharing.channels_on.Given as goal

-- The rows have the first channels.
abbrev pub invariant-loop-channel : goal.invariant-loop-channel
invariant-loop-channel g l = rows_in l.rows.items ≡ map (channels_on (take l.channel l.parts)) (range_with_len 0 l.count)
