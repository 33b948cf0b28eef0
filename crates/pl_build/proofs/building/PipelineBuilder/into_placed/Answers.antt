use Rattle.std.proofs.Common.{◌≡◌, ◌+◌, length, sym, subst}
use Rattle.std.specs.Prelude.{count_by}
use Rattle.pl_build.specs.Pipelines.{PipelineBuilderView, is_turn_stage, inbound_handlers, outbound_handlers}
use Rattle.pl_build.proofs.PathLemmas.{IsPath-split}
use Rattle.pl_build.proofs.building.PipelineBuilder.into_placed.Goals as goal

pub invariant_of-result : goal.invariant_of-result
invariant_of-result g c =
    let m = g.S.Stage.meaning in
    let HasHops : PipelineBuilderView g.row.S.Denot → Type 0 = λ p. length c.args.room.executors.items ≡ length (inbound_handlers m p.handlers) + length (outbound_handlers m p.handlers) + 2 in
    let HasTurn : PipelineBuilderView g.row.S.Denot → Type 0 = λ p. count_by (is_turn_stage m) p.handlers ≡ 1 in (
      IsPath-split m g.S.Stage.stands_after (record { handlers = c.self.inside.handlers.items; low = c.self.inside.low; high = c.self.inside.high }) c.split-inbound.result.inbound.items c.split-inbound.result.outbound.items c.args.room.executors.items c.self.invariant (subst HasTurn (sym c.self.view_is) c.requires.turn) c.split-inbound.ensures.inbound c.split-inbound.ensures.outbound (subst HasHops (sym c.self.view_is) c.requires.executors),
      c.split-inbound.ensures.turn,
    )
