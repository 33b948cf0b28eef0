use Rattle.std.proofs.Common.{Bool, List, Ok, sym, ap, subst}
use Rattle.std.proofs.lemmas.Bool.{true_from_ne_false}
use Rattle.pl_world.specs.declared.moves.Move.{Move}
use Rattle.pl_replay.specs.MoveModel.{is_there}
use Rattle.pl_schedule.specs.Driven.{IsDriven}
use Rattle.pl_schedule.proofs.DrivenNets.{driven-not, driven-more}
use Rattle.pl_schedule.proofs.scheduling.attempt.Goals as goal

pub returns-then-not-is_made-clause-driven : goal.returns-then-not-is_made-clause-driven
returns-then-not-is_made-clause-driven g c =
    driven-not g.S.Stage.meaning g.S.Stage.stands_after g.S.Stage.is_spent g.T.Transport.state g.T.Transport.may_refuse c.args.net.now c.apply.new.self c.args.moves.now.items c.args.step c.in_ok-is_made.is_made c.in_ok-is_made.ensures.applied.made
    c.if-not-is_made.true (c.in_ok-is_made.ensures.applied.unmoved (ap (λ (b : Bool). Ok b) c.if-not-is_made.true))

pub returns-clause-driven : goal.returns-clause-driven
returns-clause-driven g c =
    subst (λ (ms : List Move). IsDriven g.S.Stage.meaning g.S.Stage.stands_after g.S.Stage.is_spent g.T.Transport.state g.T.Transport.may_refuse c.args.net.now c.args.moves.now.items c.apply.new.self ms) (sym c.in_ok-push.ensures.items)
    (driven-more g.S.Stage.meaning g.S.Stage.stands_after g.S.Stage.is_spent g.T.Transport.state g.T.Transport.may_refuse c.args.net.now c.apply.new.self c.args.moves.now.items c.args.step c.in_ok-is_made.is_made c.in_ok-is_made.ensures.applied.made
    (λ plan backlogs n. true_from_ne_false (is_there plan c.args.step) (λ off. let refused = c.in_ok-is_made.ensures.applied.there plan backlogs n off in cc)))
