use Rattle.std.proofs.Common.{List, ◌++◌, map}
use Rattle.std.specs.Prelude.{All}
use Rattle.std.specs.List.{AllZip}
use Rattle.std.specs.Vec.Iter.{into_iter_items}
use Rattle.pl_threads.specs.Running.{FinishedView, EndsAs}
use Rattle.pl_threads.proofs.threads.join_all.Given as goal

-- What the threads that are left give ends the list.
abbrev pub invariant-loop-handle : goal.invariant-loop-handle
invariant-loop-handle g l = record {
  ended : (more : List (FinishedView g.row.N.Denot)) → AllZip (λ p f. EndsAs g.N.OwnNodes.view_of p.number p.owner f) (map (λ h. h.promise) (into_iter_items l.handle-iterator)) more
      → AllZip (λ p f. EndsAs g.N.OwnNodes.view_of p.number p.owner f) (map (λ h. h.promise) l.fn.handles.items) (l.all.items ++ more);
  entered : All (λ h. g.G.Gate.was_entered h.promise.gate h.promise.number h.promise.turn) (into_iter_items l.handle-iterator)
      → All (λ h. g.G.Gate.was_entered h.promise.gate h.promise.number h.promise.turn) l.fn.handles.items;
}
