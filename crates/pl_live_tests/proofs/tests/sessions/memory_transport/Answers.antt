use Rattle.std.proofs.Common.{Some}
use Rattle.pl_head.specs.contracts.transports.MemoryTransportTransport.TheImpl.{state-value}
use Rattle.pl_world.proofs.WorldLimits.{is_uncalled}
use Rattle.pl_live_tests.proofs.tests.sessions.memory_transport.Goals as goal

pub returns : goal.returns
returns c = is_uncalled (state-value.it c.new.result) (Some c.args.window) c.args.fail_at c.new.ensures.state
