use Rattle.std.proofs.Common.{◌≡◌, [], map}
use Rattle.std.specs.Prelude.{All}
use Rattle.std.specs.List.{AllByRecursion}
use Rattle.std.specs.Vec.Iter.{into_iter_items}
use Rattle.pl_build.specs.Executors.{sizes_of}
use Rattle.pl_build.specs.Refusals.{executor_count}
use Rattle.pl_stages.specs.contracts.handlers.HandlerStage.TheImpl.{meaning-value, stands_after-value}
use Rattle.pl_head.specs.contracts.transports.MemoryTransportTransport.TheImpl.{state-value}
use Rattle.pl_world.specs.Plans.{channel_planned}
use Rattle.pl_world.specs.Worlds.{FitsLimits}
use Rattle.pl_text.specs.SessionOutlines.{IsChannelOutlineWithin}
use Rattle.pl_text.specs.SessionBuilding.{channels_built}
use Rattle.pl_text.proofs.ChannelRuns.{IsUnderWay}
use Rattle.pl_text.proofs.session_text.building.channels_built.Given as goal

abbrev pub invariant-loop-channel : goal.invariant-loop-channel
invariant-loop-channel l = record {
  within : AllByRecursion IsChannelOutlineWithin (into_iter_items l.channel-iterator);
  under_way : IsUnderWay l.groups (map (channel_planned meaning-value.it state-value.it) l.built.items) (into_iter_items l.channel-iterator)
      (channels_built l.fn.groups.loops (sizes_of l.fn.groups) [] l.fn.channels);
  same : (l.groups.loops ≡ l.fn.groups.loops) × (sizes_of l.groups ≡ sizes_of l.fn.groups);
  fit : All (FitsLimits meaning-value.it stands_after-value.it state-value.it (executor_count l.fn.groups.loops (sizes_of l.fn.groups))) l.built.items;
}
