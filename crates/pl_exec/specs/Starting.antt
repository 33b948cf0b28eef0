-- What a run is given.
use Rattle.std.specs.Prelude.{◌≡◌, ℕ, ◌≤◌, true}
use Rattle.pl_event.specs.Worlds.{World}
use Rattle.pl_head.specs.Transports.{TransportState}
use Rattle.pl_event.specs.Meaning.{Meaning}
use Rattle.pl_channel.specs.Lanes.{world_of}
use Rattle.pl_world.specs.declared.limits.TheConstants.{MAX_CAPACITY}
use Rattle.pl_world.specs.Plans.{Plan, planned}
use Rattle.pl_world.specs.Worlds.{WorldView}

-- A run is given the world of the plan by which these channels run, and queues that may hold so many.
pub record IsRunOf {S T : Type 0} (meaning : S → Meaning) (state : T → TransportState) (world : World) (plan : Plan) (capacity : ℕ) (given : WorldView S T) : Type 0 where
  pub named : world ≡ world_of true plan
  pub made : plan ≡ planned meaning state capacity given.executors given.channels
  pub some : 1 ≤ capacity
  pub few : capacity ≤ MAX_CAPACITY
