use Rattle.std.proofs.Common.{◌≡◌, [], drop}
use Rattle.pl_stages.specs.contracts.handlers.HandlerStage.TheImpl.{meaning-value}
use Rattle.pl_text.specs.SessionBuilding.{all_edited, meant}
use Rattle.pl_text.proofs.session_text.building.all_edited.Given as goal

-- the edits that are left lead from here where all of them lead from no handler
abbrev pub invariant-loop-edit : goal.invariant-loop-edit
invariant-loop-edit l = all_edited (meant meaning-value.it l.builder.handlers) (drop l.edit-index l.edits) ≡ all_edited [] l.edits
