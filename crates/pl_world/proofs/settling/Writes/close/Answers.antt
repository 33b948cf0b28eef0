use Rattle.std.proofs.Common.{◌≡◌, ◌++◌, ◌∷◌, [], Some, ap, sym, ◌∙◌}
use Rattle.pl_event.specs.declared.outcomes.Outcome.TheVariants.{Closed}
use Rattle.pl_head.specs.Writes.{late_outcome}
use Rattle.pl_world.proofs.ChainSteps.{pushed_more}
use Rattle.pl_world.proofs.settling.Writes.close.Goals as goal
use Rattle.pl_world.proofs.settling.Writes.close.Goals.{in-Some-write, in-None-write}

pub loop-write-preserved : goal.loop-write-preserved
loop-write-preserved c =
    let so_far = c.loop-write in
    let settles : Some c.match-write.push ≡ late_outcome Closed c.in-Some.write = elim c.match-write.branch [
      | in-Some-write w ↦ ap Some w.push-is ∙ ap (late_outcome Closed) (sym w.in-Some-write.is)
      | in-None-write w ↦ ap Some w.push-is ∙ ap (late_outcome Closed) (sym w.in-None-write.is)
    ] in
    pushed_more (late_outcome Closed) c.args.self.outcomes.items so_far.outcomes.items _ so_far.yielded c.in-Some.write so_far.invariant
    (c.in_ok-push.ensures.items ∙ ap (λ o. so_far.outcomes.items ++ o ∷ []) settles)
