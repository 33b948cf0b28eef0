use Rattle.std.proofs.Common.{None}
use Rattle.pl_nodes_tests.specs.contracts.trickle.TrickleTransport.TheImpl.{state-value}
use Rattle.pl_world.proofs.WorldLimits.{is_uncalled}
use Rattle.pl_live_tests.proofs.tests.sessions.trickle.Goals as goal

pub returns : goal.returns
returns c = is_uncalled (state-value.it c.new.result) None None c.new.ensures
