use Rattle.std.proofs.Common.{◌++◌, ◌∙◌, ap, append-nil, List}
use Rattle.pl_event.specs.declared.events.Event.{Event}
use Rattle.pl_event.specs.Meaning.{made-push, down_of}
use Rattle.pl_event.proofs.LaneLemmas.{up_of-prefix, down_of-prefix}
use Rattle.pl_event.proofs.stages.stage_law.Goals as goal

pub returns-clause-up_step : goal.returns-clause-up_step
returns-clause-up_step g c = λ s xs x. made-push (g.S.Stage.meaning s).up xs x

pub returns-clause-down_step : goal.returns-clause-down_step
returns-clause-down_step g c = λ s xs x. made-push (g.S.Stage.meaning s).down xs x

pub returns-clause-up_grows : goal.returns-clause-up_grows
returns-clause-up_grows g c = λ s xs ys longer. up_of-prefix (g.S.Stage.meaning s) xs ys longer

pub returns-clause-down_grows : goal.returns-clause-down_grows
returns-clause-down_grows g c = λ s xs ys longer. down_of-prefix (g.S.Stage.meaning s) xs ys longer

pub returns-clause-stays_ended : goal.returns-clause-stays_ended
returns-clause-stays_ended g c = λ s xs x e. (g.met.S.Stage.lawful s).stays_ended xs x e

pub returns-clause-quiet : goal.returns-clause-quiet
returns-clause-quiet g c = λ s xs x e.
    made-push (g.S.Stage.meaning s).down xs x
    ∙ ap (λ (t : List Event). down_of (g.S.Stage.meaning s) xs ++ t) ((g.met.S.Stage.lawful s).quiet xs x e)
    ∙ append-nil (down_of (g.S.Stage.meaning s) xs)
