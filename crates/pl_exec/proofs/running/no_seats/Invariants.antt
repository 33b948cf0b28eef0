use Rattle.std.proofs.Common.{◌≡◌, None, replicate}
use Rattle.pl_exec.proofs.running.no_seats.Given as goal

abbrev pub invariant-loop-channel : goal.invariant-loop-channel
invariant-loop-channel l = l.seats.items ≡ replicate l._channel None
