use Rattle.std.proofs.Common.{◌≡◌, ◌++◌, Some, map}
use Rattle.std.specs.Vec.Iter.{into_iter_items}
use Rattle.pl_exec.proofs.words.HeadSeats.by_channel.Given as goal

abbrev pub invariant-loop-own : goal.invariant-loop-own
invariant-loop-own l = l.seats.items ++ map (λ s. Some s) (into_iter_items l.own-iterator) ≡ map (λ s. Some s) l.fn.self
