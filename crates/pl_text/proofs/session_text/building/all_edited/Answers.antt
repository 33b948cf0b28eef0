use Rattle.std.proofs.lemmas.Result.{err_from_is_err_and}
use Rattle.pl_stages.specs.contracts.handlers.HandlerStage.TheImpl.{meaning-value}
use Rattle.pl_text.specs.SessionOutlines.{IsEditWithin}
use Rattle.pl_text.specs.SessionBuilding.{meant}
use Rattle.pl_text.proofs.EditRuns.{all_at, edits_more, edits_stop, edits_end}
use Rattle.pl_text.proofs.session_text.building.all_edited.Goals as goal

pub make_edit-requires : goal.make_edit-requires
make_edit-requires c = all_at IsEditWithin c.args.edits.now c.loop-edit.edit-index c.edit-item.result c.requires c.loop-edit-test.true c.edit-item.is

pub loop-edit-preserved : goal.loop-edit-preserved
loop-edit-preserved c =
    edits_more c.args.edits.now c.loop-edit.edit-index c.edit-item.result (meant meaning-value.it c.loop-edit.builder.handlers) (meant meaning-value.it c.make_edit.new.builder.handlers) _ c.loop-edit-test.true c.edit-item.is c.loop-edit.invariant c.in_ok-make_edit.ensures

pub returns-in_err-make_edit : goal.returns-in_err-make_edit
returns-in_err-make_edit c =
    let p = err_from_is_err_and c.from_residual.result c.from_residual.ensures.1 in
    rw (p.1, p.2) (λ other. edits_stop c.args.edits.now c.loop-edit.edit-index c.edit-item.result (meant meaning-value.it c.loop-edit.builder.handlers) _ _ c.loop-edit-test.true c.edit-item.is c.loop-edit.invariant (c.in_err-make_edit.ensures other))

pub returns : goal.returns
returns c =
    edits_end c.args.edits.now c.loop-edit.edit-index (meant meaning-value.it c.loop-edit.builder.handlers) _ c.loop-edit-test.false c.loop-edit.invariant
