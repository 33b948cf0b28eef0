use Rattle.std.proofs.Common.{◌≡◌, map}
use Rattle.pl_head.specs.Writes.{out, flushed_writes, unflushed_writes}
use Rattle.pl_head.specs.WaitingMessages.{settled}
use Rattle.pl_world.proofs.settling.settle_writes.Given as goal

-- the writes of the events so far: those flushed are written, and the others wait
abbrev pub invariant-loop-event : goal.invariant-loop-event
invariant-loop-event l = record {
  bytes : l.writes.bytes.items ≡ out l.yielded;
  outcomes : l.writes.outcomes.items ≡ map settled (flushed_writes l.yielded);
  unflushed : l.writes.unflushed.items ≡ unflushed_writes l.yielded;
}
