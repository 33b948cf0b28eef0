use Rattle.std.proofs.Common.{◌≡◌, List, subst}
use Rattle.std.specs.Prelude.{count_by}
use Rattle.pl_context.specs.WaitingViews.{Entry, Holds, is_for}
use Rattle.pl_net.specs.Nets.{StationView}
use Rattle.pl_net.proofs.station.Station.backlog_len.Goals as goal

pub returns : goal.returns
returns c = subst (λ (v : StationView). (entries : List (Entry (Unit {0}))) → Holds v.waiting entries → c.count.result ≡ count_by (is_for c.args.target) entries) c.self.view_is c.count.ensures
