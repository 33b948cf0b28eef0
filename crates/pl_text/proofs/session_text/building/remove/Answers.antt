use Rattle.std.proofs.Common.{sym}
use Rattle.std.proofs.lemmas.Result.{err_from_is_err_and}
use Rattle.pl_stages.specs.contracts.handlers.HandlerStage.TheImpl.{meaning-value}
use Rattle.pl_text.proofs.EditSteps.{removed, not_removed}
use Rattle.pl_text.proofs.session_text.building.remove.Goals as goal

pub returns : goal.returns
returns c =
    removed meaning-value.it c.args.name.now c.as_str.result.now c.in_ok-remove.field-0 c.args.builder.now c.remove.new.self c.as_str.ensures (sym c.in_ok-remove.ensures.stage) c.in_ok-remove.ensures.removed

pub returns-in_err-remove : goal.returns-in_err-remove
returns-in_err-remove c =
    let p = err_from_is_err_and c.from_residual.result c.from_residual.ensures.1 in
    rw (p.1, p.2) (λ other. not_removed meaning-value.it c.args.name.now c.as_str.result.now _ c.args.builder.now.handlers c.as_str.ensures (sym c.in_err-remove.ensures.stage))
