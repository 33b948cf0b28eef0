use Rattle.std.proofs.Common.{◌≡◌, ◌++◌, [], map}
use Rattle.pl_head.specs.Writes.{bytes_of}
use Rattle.pl_head.specs.WaitingMessages.{settled}
use Rattle.pl_world.proofs.settling.Writes.flush.Given as goal

-- the writes so far are written
abbrev pub invariant-loop-write : goal.invariant-loop-write
invariant-loop-write l = record {
  bytes : l.self.bytes.items ≡ l.fn.self.bytes.items ++ bytes_of l.yielded;
  outcomes : l.self.outcomes.items ≡ l.fn.self.outcomes.items ++ map settled l.yielded;
  unflushed : l.self.unflushed.items ≡ [];
}
