use Rattle.std.proofs.Common.{◌∙◌, List, ◌∷◌, sym, ap, subst, arith}
use Rattle.std.specs.List.{All}
use Rattle.std.proofs.lemmas.List.{append-nil, take_all}
use Rattle.std.proofs.lemmas.List.Elements.{All-nil, All-cons, All-more}
use Rattle.pl_world.specs.declared.moves.Move.{Move}
use Rattle.pl_text.specs.MovesTexts.{IsSayable, move_text, terms_text}
use Rattle.pl_text.proofs.MovesPrinted.{terms-more}
use Rattle.pl_text.proofs.moves_text.printing.terms_of.Goals as goal

pub loop-step-init : goal.loop-step-init
loop-step-init c = record {
  bytes = c.in_ok-text.ensures.ok ∙ c.new-term.ensures.text ∙ sym (append-nil (move_text c.args.first));
  sayable = All-nil IsSayable;
}

pub loop-step-preserved : goal.loop-step-preserved
loop-step-preserved c = record {
  bytes = terms-more c.args.first c.args.rest.now c.loop-step.step-index _ _ _ (omega arith) c.loop-step.invariant.bytes c.in_ok-add_term.ensures.bytes;
  sayable = All-more IsSayable c.args.rest.now c.loop-step.step-index _ (omega arith) c.loop-step.invariant.sayable c.add_term.ensures.sayable;
}

pub returns-clause-bytes : goal.returns-clause-bytes
returns-clause-bytes c = c.loop-step.invariant.bytes ∙ ap (λ (ms : List Move). terms_text (c.args.first ∷ ms)) (take_all c.loop-step.step-index c.args.rest.now (omega arith))

pub returns-clause-sayable : goal.returns-clause-sayable
returns-clause-sayable c =
    All-cons IsSayable c.args.first c.args.rest.now c.new-term.ensures.sayable
    (subst (All IsSayable) (take_all c.loop-step.step-index c.args.rest.now (omega arith)) c.loop-step.invariant.sayable)
