use Rattle.std.proofs.Common.{[], ap, ◌∙◌}
use Rattle.std.specs.Global.{Vec}
use Rattle.pl_event.specs.declared.events.Event.{Event}
use Rattle.pl_world.specs.Chains.{made_toward}
use Rattle.pl_world.proofs.ChainSteps.{through_more, toward_is}
use Rattle.pl_world.proofs.SplitChains.{split_new}
use Rattle.pl_world.proofs.chains.pass_all.Goals as goal

pub loop-stage-preserved : goal.loop-stage-preserved
loop-stage-preserved g c =
    let meaning = g.S.Stage.meaning in
    let events = c.loop-stage.events.items in
    let made = c.in_ok-pass.ensures in
    let step = ap (λ (v : Vec Event). v.items) c.toward-events.ensures ∙ toward_is c.args.toward (meaning c.in-Some.stage) events c.in_ok-pass.field-0 made.up made.down in
    record {
      made = through_more meaning (made_toward c.args.toward) c.loop-stage.yielded c.in-Some.stage c.args.events.items events c.toward-events.result.items c.loop-stage.invariant.made step;
      new = (split_new g.S.Stage.stands_after _ [] c.in-Some.stage c.next.new.self.rest.items c.in-Some.ensures.steps.0 c.loop-stage.invariant.new).2;
    }
