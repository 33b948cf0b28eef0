use Rattle.std.proofs.Common.{◌∙◌}
use Rattle.pl_world.proofs.ChainSteps.{made_more}
use Rattle.pl_world.proofs.chains.pass.Goals as goal

pub loop-event-preserved : goal.loop-event-preserved
loop-event-preserved g c =
    let m = g.S.Stage.meaning c.args.stage in
    let before = c.loop-event.invariant in
    let taken = c.loop-event.yielded in
    let step = c.in_ok-step.ensures in
    let e = c.in-Some.event in
    record {
      meaning_kept = c.step.ensures.same_meaning ∙ before.meaning_kept;
      stands = step.stands taken before.stands;
      up_made = made_more m.up taken e c.loop-event.up.items c.step.new.up.items before.up_made (rw (← before.meaning_kept) (step.up taken before.stands));
      down_made = made_more m.down taken e c.loop-event.down.items c.step.new.down.items before.down_made (rw (← before.meaning_kept) (step.down taken before.stands));
    }
