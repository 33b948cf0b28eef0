use Rattle.std.proofs.Common.{◌≡◌, List, Some, None, map, sym, ◌∙◌, subst}
use Rattle.std.specs.Prelude.{All, IfOk}
use Rattle.pl_build.specs.Pipelines.{PlacedView}
use Rattle.pl_head.specs.declared.inputs.ReadPlan.{ReadPlan}
use Rattle.pl_head.specs.Transports.{MemoryTransportView, new_state}
use Rattle.pl_head.specs.contracts.transports.MemoryTransportTransport.TheImpl.{state-value}
use Rattle.pl_world.specs.declared.memory_worlds.TheConstants.{MEMORY_WINDOW}
use Rattle.pl_world.specs.declared.session.Recorded.{Recorded}
use Rattle.pl_world.proofs.MemoryWorlds.{has_inputs, has_pipelines, has_transports}
use Rattle.pl_world.proofs.memory_worlds.World+S+MemoryTransport.over_memory.Goals as goal

abbrev IsNew : MemoryTransportView → Type 0
IsNew transport = state-value.it transport ≡ new_state (Some MEMORY_WINDOW) None

pub returns-clause-pipelines : goal.returns-clause-pipelines
returns-clause-pipelines g c =
    let made = c.of_thrifty.result in
    subst (λ (ps : List (PlacedView g.row.S.Denot)). IfOk made (λ w. map (λ (r : Recorded g.row.S.Denot MemoryTransportView). r.pipeline) w.channels ≡ ps)) c.from_vec.ensures
    (has_pipelines c.from_vec.result c.from_vec-2.result c.from_vec-3.result c.args.executors made c.of_thrifty.ensures.answers)

pub returns-clause-inputs : goal.returns-clause-inputs
returns-clause-inputs g c =
    let made = c.of_thrifty.result in
    subst (λ (plans : List ReadPlan). IfOk made (λ w. map (λ (r : Recorded g.row.S.Denot MemoryTransportView). r.input) w.channels ≡ plans)) (c.from_vec-2.ensures ∙ c.in_ok-inputs.ensures)
    (has_inputs c.from_vec.result c.from_vec-2.result c.from_vec-3.result c.args.executors made c.of_thrifty.ensures.answers)

pub returns-clause-transports : goal.returns-clause-transports
returns-clause-transports g c =
    has_transports c.from_vec.result c.from_vec-2.result c.from_vec-3.result c.args.executors IsNew
    (subst (All IsNew) (sym c.from_vec-3.ensures) c.in_ok-transports.ensures.each) c.of_thrifty.result c.of_thrifty.ensures.answers
