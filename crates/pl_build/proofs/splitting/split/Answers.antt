use Rattle.std.proofs.Common.{◌≡◌, List, Bool, [], ◌∷◌, ◌++◌, sym, ap, ◌∙◌, ◌&&◌, arith, append_assoc, append-nil, not}
use Rattle.std.specs.List.{list_all}
use Rattle.pl_build.specs.Pipelines.{is_inbound, is_outbound_stage, is_turn_stage, stages_before_turn}
use Rattle.pl_build.specs.declared.named_stages.NamedStage.{NamedStage}
use Rattle.std.proofs.lemmas.List.{nil_from_length}
use Rattle.pl_event.proofs.Lists.{list_all_push}
use Rattle.pl_build.proofs.Lists.{length-take_while-le}
use Rattle.pl_build.proofs.PathLemmas.{chain_room, inbound_step, outbound_step, inbound_end, outbound_end, turn_step, turn_end}
use Rattle.pl_build.proofs.splitting.split.Goals as goal

pub add-requires-clause-inbound : goal.add-requires-clause-inbound
add-requires-clause-inbound g c =
    let before = c.loop-handler.invariant in
    chain_room (is_inbound g.S.Stage.meaning) c.loop-handler.yielded c.loop-handler.yielded c.loop-handler.handler-iterator.rest.items c.next.new.self.rest.items c.args.handlers.items c.in-Some.handler c.loop-handler.chains.inbound.items _ _ before.rest c.in-Some.ensures.steps.0 before.inbound (omega arith) c.loop-handler.chains.inbound.ok.0 before.inbound_room

pub add-requires-clause-outbound : goal.add-requires-clause-outbound
add-requires-clause-outbound g c =
    let before = c.loop-handler.invariant in
    let short = length-take_while-le (λ (h : NamedStage g.row.S.Denot). not (is_turn_stage g.S.Stage.meaning h)) c.loop-handler.yielded in
    chain_room (is_outbound_stage g.S.Stage.meaning) (stages_before_turn g.S.Stage.meaning c.loop-handler.yielded) c.loop-handler.yielded c.loop-handler.handler-iterator.rest.items c.next.new.self.rest.items c.args.handlers.items c.in-Some.handler c.loop-handler.chains.outbound.items _ _ before.rest c.in-Some.ensures.steps.0 before.outbound short c.loop-handler.chains.outbound.ok.0 before.outbound_room

pub loop-handler-preserved : goal.loop-handler-preserved
loop-handler-preserved g c =
    let m = g.S.Stage.meaning in
    let before = c.loop-handler.invariant in
    let ys : List (NamedStage g.row.S.Denot) = c.loop-handler.yielded in
    let h = c.in-Some.handler in
    let flag : c.is_still_before-is_before.result ≡ (list_all (λ x. not (is_turn_stage m x)) ys && not (is_turn_stage m h)) = c.is_still_before-is_before.ensures ∙ ap (λ (b : Bool). b && not (is_turn_stage m h)) before.is_before in
    let inbound = inbound_step m ys h c.loop-handler.chains.inbound.items c.add.new.self.inbound.items c.add.ensures.inbound before.inbound in
    record {
      rest = append_assoc ys (h ∷ []) c.next.new.self.rest.items ∙ ap (λ (t : List (NamedStage g.row.S.Denot)). ys ++ t) (sym c.in-Some.ensures.steps.0) ∙ before.rest;
      inbound = inbound;
      outbound = outbound_step m ys h c.is_still_before-is_before.result c.loop-handler.chains.outbound.items c.add.new.self.outbound.items flag c.add.ensures.outbound before.outbound;
      turn = turn_step m ys h c.is_still_before-is_before.result c.loop-handler.chains.turn c.add.new.self.turn c.add.new.self.inbound.items flag c.add.ensures.turn inbound before.turn;
      is_before = flag ∙ sym (list_all_push (λ x. not (is_turn_stage m x)) ys h);
      inbound_room = omega (arith, before.inbound_room, c.add.ensures.inbound_room);
      outbound_room = omega (arith, before.outbound_room, c.add.ensures.outbound_room);
    }

pub returns : goal.returns
returns g c =
    let m = g.S.Stage.meaning in
    let before = c.loop-handler.invariant in
    let ys : List (NamedStage g.row.S.Denot) = c.loop-handler.yielded in
    let last : c.loop-handler.handler-iterator.rest.items ≡ [] = nil_from_length c.loop-handler.handler-iterator.rest.items (omega (arith, c.loop-handler.handler-iterator.rest.ok.0, c.in-None.ensures.steps.0)) in
    let whole : ys ≡ c.args.handlers.items = sym (append-nil ys) ∙ ap (λ (t : List (NamedStage g.row.S.Denot)). ys ++ t) (sym last) ∙ before.rest in
    record {
      inbound = inbound_end m ys c.args.handlers.items c.loop-handler.chains.inbound.items whole before.inbound;
      outbound = outbound_end m ys c.args.handlers.items c.loop-handler.chains.outbound.items c.reverse.new.self.items whole before.outbound c.reverse.ensures.items;
      turn = turn_end m ys c.loop-handler.chains.inbound.items c.loop-handler.chains.turn before.inbound before.turn;
    }
