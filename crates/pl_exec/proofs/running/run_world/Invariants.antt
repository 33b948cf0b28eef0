use Rattle.std.proofs.Common.{true}
use Rattle.pl_channel.specs.Lanes.{world_of}
use Rattle.pl_world.specs.Plans.{planned}
use Rattle.pl_exec.proofs.running.run_world.Given as goal

abbrev pub ghosts-run_planned-W-Named : goal.ghosts-run_planned-W-Named
ghosts-run_planned-W-Named g a = record { world = world_of true (planned g.S.Stage.meaning g.T.Transport.state a.capacity a.world.executors a.world.channels) }

abbrev pub ghosts-run_planned-W-Planned : goal.ghosts-run_planned-W-Planned
ghosts-run_planned-W-Planned g a = record { plan = planned g.S.Stage.meaning g.T.Transport.state a.capacity a.world.executors a.world.channels }
