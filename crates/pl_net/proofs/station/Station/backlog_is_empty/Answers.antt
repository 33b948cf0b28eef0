use Rattle.std.proofs.Common.{◌≡◌, ◌==◌, List, length, subst}
use Rattle.pl_context.specs.WaitingViews.{Entry, Holds}
use Rattle.pl_net.specs.Nets.{StationView}
use Rattle.pl_net.proofs.station.Station.backlog_is_empty.Goals as goal

pub returns : goal.returns
returns c = subst (λ (v : StationView). (entries : List (Entry (Unit {0}))) → Holds v.waiting entries → c.is_empty.result ≡ (length entries == 0)) c.self.view_is c.is_empty.ensures
