use Rattle.std.proofs.Common.{◌≡◌, ◌≤◌, ◌++◌, length, map, filter, not}
use Rattle.std.specs.Prelude.{vec_capacity}
use Rattle.std.specs.List.{list_all}
use Rattle.std.specs.Vec.Iter.{into_iter_items}
use Rattle.pl_build.specs.Pipelines.{is_inbound, is_outbound_stage, is_turn_stage, stages_before_turn}
use Rattle.pl_build.proofs.splitting.split.Given as goal

abbrev pub invariant-loop-handler : goal.invariant-loop-handler
invariant-loop-handler g l = record {
  rest : l.yielded ++ into_iter_items l.handler-iterator ≡ l.fn.handlers.items;
  inbound : l.chains.inbound.items ≡ map (λ handler. handler.stage) (filter (is_inbound g.S.Stage.meaning) l.yielded);
  outbound : l.chains.outbound.items ≡ map (λ handler. handler.stage) (filter (is_outbound_stage g.S.Stage.meaning) (stages_before_turn g.S.Stage.meaning l.yielded));
  turn : l.chains.turn ≡ length (filter (is_inbound g.S.Stage.meaning) (stages_before_turn g.S.Stage.meaning l.yielded));
  is_before : l.is_before ≡ list_all (λ handler. not (is_turn_stage g.S.Stage.meaning handler)) l.yielded;
  inbound_room : length l.fn.handlers.items ≤ vec_capacity l.chains.inbound;
  outbound_room : length l.fn.handlers.items ≤ vec_capacity l.chains.outbound;
}
