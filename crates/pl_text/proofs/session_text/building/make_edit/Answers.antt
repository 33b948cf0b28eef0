use Rattle.std.proofs.Common.{ap, ◌∙◌}
use Rattle.pl_stages.specs.contracts.handlers.HandlerStage.TheImpl.{meaning-value}
use Rattle.pl_text.specs.SessionBuilding.{edited}
use Rattle.pl_text.proofs.EditSteps.{after_made, before_made, beside_refused, first_made, first_refused, last_made, passed_on}
use Rattle.pl_text.proofs.session_text.building.make_edit.Goals as goal

pub returns-in_ok-add_first-in-First : goal.returns-in_ok-add_first-in-First
unfolding edited
returns-in_ok-add_first-in-First c =
    ap (edited _) c.in-First.is ∙ first_made meaning-value.it c.in-First.addition c.as_str.result.now _ c.stage_of-stage.result c.args.builder.now c.add_first.new.self
    c.as_str.ensures c.group_of.ensures c.stage_of-stage.ensures.meaning c.in_ok-add_first-in-First.ensures.allowed c.in_ok-add_first-in-First.ensures.added

pub returns-in_ok-add_last-in-Last : goal.returns-in_ok-add_last-in-Last
unfolding edited
returns-in_ok-add_last-in-Last c =
    ap (edited _) c.in-Last.is ∙ last_made meaning-value.it c.in-Last.addition c.as_str-in-Last.result.now _ c.stage_of-stage-in-Last.result c.args.builder.now c.add_last.new.self
    c.as_str-in-Last.ensures c.group_of-in-Last.ensures c.stage_of-stage-in-Last.ensures.meaning c.in_ok-add_last-in-Last.ensures.allowed c.in_ok-add_last-in-Last.ensures.added

pub returns-in_ok-add_before-in-Before : goal.returns-in_ok-add_before-in-Before
unfolding edited
returns-in_ok-add_before-in-Before c =
    ap (edited _) c.in-Before.is ∙ before_made meaning-value.it c.in-Before.addition c.in-Before.at c.as_str-in-Before.result.now c.as_str-name.result.now _ c.stage_of-stage-in-Before.result c.args.builder.now c.add_before.new.self
    c.as_str-name.ensures c.as_str-in-Before.ensures c.group_of-in-Before.ensures c.stage_of-stage-in-Before.ensures.meaning c.in_ok-add_before-in-Before.ensures.allowed c.in_ok-add_before-in-Before.ensures.added

pub returns-in_ok-add_after-in-After : goal.returns-in_ok-add_after-in-After
unfolding edited
returns-in_ok-add_after-in-After c =
    ap (edited _) c.in-After.is ∙ after_made meaning-value.it c.in-After.addition c.in-After.at c.as_str-in-After.result.now c.as_str-name-in-After.result.now _ c.stage_of-stage-in-After.result c.args.builder.now c.add_after.new.self
    c.as_str-name-in-After.ensures c.as_str-in-After.ensures c.group_of-in-After.ensures c.stage_of-stage-in-After.ensures.meaning c.in_ok-add_after-in-After.ensures.allowed c.in_ok-add_after-in-After.ensures.added

pub returns-in_err-add_first-in-First : goal.returns-in_err-add_first-in-First
unfolding edited
returns-in_err-add_first-in-First c =
    passed_on c.from_residual.result _ _ _ c.from_residual.ensures
    (λ other. ap (edited _) c.in-First.is
    ∙ first_refused meaning-value.it c.in-First.addition c.as_str.result.now c.args.builder.now.handlers _ _ c.as_str.ensures c.in_err-add_first-in-First.ensures.refused other)

pub returns-in_err-add_last-in-Last : goal.returns-in_err-add_last-in-Last
unfolding edited
returns-in_err-add_last-in-Last c =
    passed_on c.from_residual-in_err-add_last-in-Last.result _ _ _ c.from_residual-in_err-add_last-in-Last.ensures
    (λ other. ap (edited _) c.in-Last.is
    ∙ first_refused meaning-value.it c.in-Last.addition c.as_str-in-Last.result.now c.args.builder.now.handlers _ _ c.as_str-in-Last.ensures c.in_err-add_last-in-Last.ensures.refused other)

pub returns-in_err-add_before-in-Before : goal.returns-in_err-add_before-in-Before
unfolding edited
returns-in_err-add_before-in-Before c =
    passed_on c.from_residual-in_err-add_before-in-Before.result _ _ _ c.from_residual-in_err-add_before-in-Before.ensures
    (λ other. ap (edited _) c.in-Before.is
    ∙ beside_refused meaning-value.it c.in-Before.addition c.in-Before.at c.as_str-in-Before.result.now c.as_str-name.result.now c.args.builder.now.handlers _ _ c.as_str-name.ensures c.as_str-in-Before.ensures c.in_err-add_before-in-Before.ensures.refused other)

pub returns-in_err-add_after-in-After : goal.returns-in_err-add_after-in-After
unfolding edited
returns-in_err-add_after-in-After c =
    passed_on c.from_residual-in_err-add_after-in-After.result _ _ _ c.from_residual-in_err-add_after-in-After.ensures
    (λ other. ap (edited _) c.in-After.is
    ∙ beside_refused meaning-value.it c.in-After.addition c.in-After.at c.as_str-in-After.result.now c.as_str-name-in-After.result.now c.args.builder.now.handlers _ _ c.as_str-name-in-After.ensures c.as_str-in-After.ensures c.in_err-add_after-in-After.ensures.refused other)
