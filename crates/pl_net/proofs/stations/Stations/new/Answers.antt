use Rattle.std.proofs.Common.{sym, subst}
use Rattle.pl_context.specs.Stops.{HasPlaces}
use Rattle.pl_net.proofs.StationSteps.{start-stands}
use Rattle.pl_net.proofs.stations.Stations.new.Goals as goal

pub returns-clause-stands : goal.returns-clause-stands
returns-clause-stands g c = λ world x hold.
    start-stands g.N.Nodes.view_of g.N.Nodes.stands world x c.args.nodes c.args.stations.items c.in_ok-new.field-0 hold c.requires.start c.in_ok-new.ensures.empty
    (subst (λ s. HasPlaces s (g.N.Nodes.view_of c.args.nodes).lanes.places) (sym c.in_ok-new.ensures.places) c.requires.places)
