use Rattle.std.proofs.Common.{sym, ◌∙◌}
use Rattle.pl_threads_tests.proofs.NodeLemmas.{target-written}
use Rattle.pl_threads_tests.proofs.nodes.NodeOwnNodes.target.Goals as goal

pub returns : goal.returns
returns g c = c.from.ensures ∙ sym (target-written c.args.self.now c.args.lane c.requires.written)
