use Rattle.pl_world.proofs.SmallLanes.{stages_small}
use Rattle.pl_world.proofs.worlds.World.of_thrifty.Goals as goal

pub new-requires-clause-small : goal.new-requires-clause-small
new-requires-clause-small g c within kept =
    stages_small g.S.Stage.meaning g.S.Stage.stands_after g.T.Transport.state g.met.S.Thrifty.thrifty c.args.pipelines c.args.inputs c.args.transports c.args.executors within kept
