use Rattle.std.proofs.Common.{[], ℕ, map, sym, subst, arith}
use Rattle.std.specs.Prelude.{All}
use Rattle.std.proofs.lemmas.List.{length-map}
use Rattle.std.proofs.lemmas.List.Elements.{All-weaker}
use Rattle.pl_build.specs.Executors.{sizes_of}
use Rattle.pl_build.specs.Refusals.{executor_count}
use Rattle.pl_stages.specs.declared.handlers.Handler.{Handler}
use Rattle.pl_head.specs.Transports.{MemoryTransportView}
use Rattle.pl_head.specs.contracts.transports.MemoryTransportTransport.TheImpl.{state-value}
use Rattle.pl_stages.specs.contracts.handlers.HandlerStage.TheImpl.{meaning-value, stands_after-value}
use Rattle.pl_world.specs.declared.session.Recorded.{Recorded}
use Rattle.pl_world.specs.Plans.{channel_planned}
use Rattle.pl_world.specs.Worlds.{FitsLimits, IsUncalled}
use Rattle.pl_text.proofs.SessionWithin.{channels_built-within}
use Rattle.pl_text.proofs.session_text.building.session_built.Goals as goal

pub of-requires : goal.of-requires
of-requires c =
    let groups = c.in_ok-groups.groups in
    let channels = c.in_ok-channels.channels in
    let plans = map (channel_planned meaning-value.it state-value.it) channels in
    let size = (channels_built-within groups.loops (sizes_of groups) [] c.args.outline.channels plans c.requires.each_channel c.in_ok-channels.ensures.built).1 in
    record {
      executors = c.executors-executors.ensures.within;
      channels = omega (arith, size, length-map channels (channel_planned meaning-value.it state-value.it), c.requires.channels_at_most);
      each = subst (λ (n : ℕ). All (FitsLimits meaning-value.it stands_after-value.it state-value.it n) channels) (sym c.executors-executors.ensures.count) c.in_ok-channels.ensures.fit;
    }

pub returns-clause-uncalled : goal.returns-clause-uncalled
returns-clause-uncalled c =
    let groups = c.in_ok-groups.groups in
    let Fits : Recorded Handler MemoryTransportView → Type 0 = FitsLimits meaning-value.it stands_after-value.it state-value.it (executor_count groups.loops (sizes_of groups)) in
    let Uncalled : Recorded Handler MemoryTransportView → Type 0 = λ r. IsUncalled (state-value.it r.transport) in
    subst (All Uncalled) (sym c.of.ensures.channels) (All-weaker Fits Uncalled (λ r fits. fits.transport) c.in_ok-channels.channels c.in_ok-channels.ensures.fit)
