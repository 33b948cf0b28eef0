use Rattle.std.proofs.Common.{◌++◌, ◌∙◌, ap}
use Rattle.std.proofs.lemmas.List.{take_all}
use Rattle.pl_queue.specs.Views.{take_count, fresh_take_counts}
use Rattle.pl_queue.proofs.Lists.{pushed-more}
use Rattle.pl_queue.proofs.counts.add_counts.Goals as goal

pub loop-lane-preserved : goal.loop-lane-preserved
loop-lane-preserved c =
    c.in_ok-push.ensures.items ∙ pushed-more (λ l. take_count l 0) c.args.counts.now.items _ c.args.lanes.now _ _ c.loop-lane-test.true c.loop-lane.invariant

pub returns : goal.returns
returns c =
    c.loop-lane.invariant ∙ ap (λ ls. c.args.counts.now.items ++ fresh_take_counts ls) (take_all c.loop-lane.lane-index c.args.lanes.now c.loop-lane-test.false)
