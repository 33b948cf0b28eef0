use Rattle.std.proofs.Common.{List}
use Rattle.pl_threads.specs.Cores.{AtWork, CoreHolds, CoreKeeps, FrontsGo, at_work}
use Rattle.pl_threads.specs.NodesViews.{TakesOwn}
use Rattle.pl_threads.specs.Serving.{ServesNone}
use Rattle.pl_threads.proofs.cores.Core.work_off.Given as goal

abbrev pub invariant-loop : goal.invariant-loop
invariant-loop g l = record {
  holds : CoreHolds g.N.OwnNodes.view_of g.N.OwnNodes.stands g.W.Named.world l.self;
  keeps : CoreKeeps g.N.OwnNodes.view_of l.fn.self l.self;
  taken : TakesOwn (g.N.OwnNodes.view_of l.fn.self.nodes).lanes (g.N.OwnNodes.view_of l.self.nodes).lanes;
  go : (between : List (AtWork g.row.N.Denot)) × FrontsGo g.N.OwnNodes.view_of g.N.OwnNodes.acts l.fn.self.number (at_work l.fn.self) between (at_work l.self);
  served : ServesNone (g.N.OwnNodes.served l.fn.self.nodes) (g.N.OwnNodes.served l.self.nodes);
}
