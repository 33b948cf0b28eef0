use Rattle.std.proofs.Common.{arith}
use Rattle.pl_net.specs.Stations.{stations_view}
use Rattle.pl_net.proofs.Oldest.{found}
use Rattle.pl_net.proofs.stations.Stations.next_target.Goals as goal

pub returns : goal.returns
returns g c = λ world x backlogs h.
    let size = c.args.self.now.stations.ok.0 in
    found g.N.Nodes.view_of g.N.Nodes.stands world x (stations_view c.args.self.now backlogs) h c.args.me c.args.self.now.capacity (omega (arith, c.requires.there, size)) c.deref.result.now c.deref.ensures.value c.oldest_target.result
    c.oldest_target.ensures
