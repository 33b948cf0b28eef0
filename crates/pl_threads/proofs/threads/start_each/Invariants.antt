use Rattle.std.proofs.Common.{◌≡◌, ◌++◌, map}
use Rattle.std.specs.Vec.Iter.{into_iter_items}
use Rattle.pl_threads.proofs.threads.start_each.Given as goal

abbrev pub invariant-loop-executor : goal.invariant-loop-executor
invariant-loop-executor g l =
    map (λ h. h.promise) l.handles.items ++ map (λ e. record { gate = l.fn.gate; number = e.0.number; turn = e.0.turns; owner = e.0.owner }) (into_iter_items l.executor-iterator)
    ≡ map (λ e. record { gate = l.fn.gate; number = e.0.number; turn = e.0.turns; owner = e.0.owner }) l.fn.executors.items
