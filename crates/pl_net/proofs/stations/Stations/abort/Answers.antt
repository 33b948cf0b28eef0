use Rattle.pl_net.specs.Stations.{stations_view}
use Rattle.pl_net.proofs.StationSteps.{abort-settles, given-stands}
use Rattle.pl_net.proofs.stations.Stations.abort.Goals as goal

pub home-home-requires-clause-stands : goal.home-home-requires-clause-stands
home-home-requires-clause-stands g c = let w = c.requires.stands in (w.0, w.3.hold)

pub work_off-requires-clause-stands : goal.work_off-requires-clause-stands
work_off-requires-clause-stands g c =
    let w = c.requires.stands in (
      w.0,
      w.2,
      given-stands g.N.Nodes.view_of g.N.Nodes.stands w.0 w.1 c.args.channel _ (stations_view c.args.self.now w.2) c.home-home.ensures c.requires.rests w.3 c.abort.new.self c.abort.new.work c.abort.ensures.gives,
    )

pub returns-clause-aborts : goal.returns-clause-aborts
returns-clause-aborts g c = λ world x backlogs h.
    let from = stations_view c.args.self.now backlogs in
    let stands = given-stands g.N.Nodes.view_of g.N.Nodes.stands world x c.args.channel _ from c.home-home.ensures c.requires.rests h c.abort.new.self c.abort.new.work c.abort.ensures.gives in
    abort-settles g.N.Nodes.view_of g.N.Nodes.stands world x c.args.channel _ from c.home-home.ensures c.requires.rests h c.abort.new.self c.abort.new.work
    g.N.Nodes.takes g.N.Nodes.aborts c.abort.ensures.aborts (λ b. stations_view c.work_off.new.self b) (c.work_off.ensures.settles world backlogs stands)
