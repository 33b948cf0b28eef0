use Rattle.std.proofs.Common.{◌≡◌, length, replicate}
use Rattle.std.specs.List.{range_with_len}
use Rattle.pl_exec.specs.ChannelRows.{by_channel}
use Rattle.pl_exec.proofs.sharing.positions.Given as goal

-- the first channels of the row have their positions
abbrev pub invariant-loop-position : goal.invariant-loop-position
invariant-loop-position l = l.positions.items ≡ by_channel (λ n k. k) l.row (range_with_len 0 l.position) (replicate l.channels (length l.row))
