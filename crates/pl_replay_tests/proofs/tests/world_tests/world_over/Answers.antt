use Rattle.pl_stages.specs.contracts.handlers.HandlerStage.TheImpl.{stands_after-value}
use Rattle.pl_world.proofs.SmallLanes.{handlers_small}
use Rattle.pl_replay_tests.proofs.tests.world_tests.world_over.Goals as goal

pub new-requires-clause-small : goal.new-requires-clause-small
new-requires-clause-small g c within kept =
    handlers_small stands_after-value.it g.T.Transport.state c.args.pipelines c.args.inputs c.args.transports c.args.executors within kept
