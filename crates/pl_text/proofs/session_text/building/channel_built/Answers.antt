use Rattle.std.proofs.Common.{Some, length, sym, ap, subst, ◌∙◌}
use Rattle.std.proofs.lemmas.Bool.{and_from}
use Rattle.std.proofs.lemmas.Result.{err_from_is_err_and}
use Rattle.pl_stages.specs.declared.handlers.Handler.{Handler}
use Rattle.pl_stages.specs.contracts.handlers.HandlerStage.TheImpl.{meaning-value, stands_after-value}
use Rattle.pl_build.specs.Paths.{IsPath}
use Rattle.pl_build.specs.Executors.{sizes_of}
use Rattle.pl_build.specs.Refusals.{executor_count}
use Rattle.pl_head.specs.Transports.{MemoryTransportView}
use Rattle.pl_head.specs.contracts.transports.MemoryTransportTransport.TheImpl.{state-value}
use Rattle.pl_world.specs.declared.session.Recorded.{Recorded}
use Rattle.pl_world.specs.Plans.{channel_planned}
use Rattle.pl_world.specs.Limits.{fits, aborts_within}
use Rattle.pl_world.specs.Worlds.{FitsLimits}
use Rattle.pl_world.proofs.WorldLimits.{is_uncalled}
use Rattle.pl_stages.specs.HandlerThrift.{handler-thrifty}
use Rattle.pl_world.proofs.SmallLanes.{channel_small}
use Rattle.pl_text.specs.SessionBuilding.{all_edited, IsChannelBuilt}
use Rattle.pl_text.proofs.ChannelSteps.{channel_is_built, pipeline_refused}
use Rattle.pl_text.proofs.session_text.building.channel_built.Goals as goal

pub returns-clause-built : goal.returns-clause-built
returns-clause-built c =
    let built = c.in_ok-pipeline.ensures in
    let IsBuilt : Recorded Handler MemoryTransportView → Type 0 =
    λ r. IsChannelBuilt c.args.groups.now c.build.new.groups c.args.channel (channel_planned meaning-value.it state-value.it r) in
    subst IsBuilt (sym c.new.ensures.made)
    (channel_is_built meaning-value.it state-value.it c.args.groups.now c.build.new.groups c.args.channel c.in_ok-builder.builder c.marks.new.self c.in_ok-pipeline.pipeline c.new-transport.result _
    (ap (all_edited _) (sym c.as_slice.ensures) ∙ c.in_ok-builder.ensures) (sym c.in_ok-marks.ensures.answer) c.in_ok-marks.ensures.set
    built.allowed built.inbound_path built.outbound_path built.executors built.marks built.counted c.new-transport.ensures.state)

pub returns-clause-fits : goal.returns-clause-fits
returns-clause-fits c =
    let Fits : Recorded Handler MemoryTransportView → Type 0 =
    FitsLimits meaning-value.it stands_after-value.it state-value.it (executor_count c.args.groups.now.loops (sizes_of c.args.groups.now)) in
    let path : IsPath meaning-value.it stands_after-value.it c.in_ok-pipeline.pipeline =
    subst (λ (r : Recorded Handler MemoryTransportView). IsPath meaning-value.it stands_after-value.it r.pipeline) c.new.ensures.made c.new.ensures.path in
    subst Fits (sym c.new.ensures.made) (record {
      path = path;
      placed = c.in_ok-pipeline.ensures.executors_are_there;
      input = and_from (fits c.args.channel.bursts) (aborts_within c.args.channel.abort_after (length c.args.channel.bursts)) c.requires.bursts c.requires.abort_after;
      transport = is_uncalled (state-value.it c.new-transport.result) (Some c.args.channel.window) c.args.channel.fail_at c.new-transport.ensures.state;
      small = channel_small meaning-value.it stands_after-value.it state-value.it handler-thrifty (record { pipeline = c.in_ok-pipeline.pipeline; input = record { bursts = c.args.channel.bursts; abort_after = c.args.channel.abort_after }; transport = c.new-transport.result }) path c.requires.bursts;
    })

pub returns-in_err-pipeline-clause-refused : goal.returns-in_err-pipeline-clause-refused
returns-in_err-pipeline-clause-refused c =
    let p = err_from_is_err_and c.from_residual-in_err-pipeline.result c.from_residual-in_err-pipeline.ensures.1 in
    rw (p.1, p.2) (λ other. pipeline_refused meaning-value.it state-value.it _ c.args.channel c.in_ok-builder.builder c.marks.new.self _ _
    (ap (all_edited _) (sym c.as_slice.ensures) ∙ c.in_ok-builder.ensures) (sym c.in_ok-marks.ensures.answer) c.in_ok-marks.ensures.set
    c.in_err-pipeline.ensures.refused other)
