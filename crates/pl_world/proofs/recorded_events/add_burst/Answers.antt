use Rattle.std.proofs.Common.{◌++◌, ◌∷◌, [], ap, ◌∙◌}
use Rattle.pl_event.specs.Inputs.{element_event}
use Rattle.pl_world.proofs.ChainSteps.{pushed_more}
use Rattle.pl_world.proofs.recorded_events.add_burst.Goals as goal

pub loop-element-preserved : goal.loop-element-preserved
loop-element-preserved c =
    let so_far = c.loop-element in
    pushed_more element_event c.args.events.now.items so_far.events.items _ so_far.yielded c.in-Some.element so_far.invariant
    (c.in_ok-push.ensures.items ∙ ap (λ event. so_far.events.items ++ event ∷ []) c.into_event.ensures)
