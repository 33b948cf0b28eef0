use Rattle.pl_world.proofs.WorldLimits.{is_world}
use Rattle.pl_world.proofs.worlds.World.of.Goals as goal

pub invariant_of-result : goal.invariant_of-result
invariant_of-result g c =
    is_world g.S.Stage.meaning g.S.Stage.stands_after g.met.S.Stage.lawful g.T.Transport.state c.args.channels c.args.executors c.requires.executors c.requires.channels c.requires.each
