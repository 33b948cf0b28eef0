use Rattle.std.proofs.Common.{sym, ◌∙◌}
use Rattle.pl_flow.specs.LanesViews.{taken_with}
use Rattle.pl_threads.proofs.RunLemmas.{task-taken, holds-on}
use Rattle.pl_threads.proofs.cores.Core.take.Goals as goal

pub returns-clause-holds : goal.returns-clause-holds
returns-clause-holds g c =
    let holds = c.requires.holds in
    let take = c.take.ensures in
    let nodes = c.args.self.now.nodes in
    holds-on nodes c.args.self.now.work (taken_with (g.N.OwnNodes.view_of nodes).lanes.taken c.args.envelope) holds.at holds.places (task-taken c.args.envelope holds.runs c.requires.foreign) holds.admits
    take.stands take.keeps take.taken take.placed take.makes (λ e. holds.why (sym take.refused ∙ e))
