use Rattle.std.proofs.Common.{◌≡◌, List, map, slice_get, subst}
use Rattle.std.specs.List.{filter}
use Rattle.std.specs.Option.{option_copied}
use Rattle.pl_context.specs.WaitingViews.{Entry, Holds, is_for}
use Rattle.pl_net.specs.Nets.{StationView}
use Rattle.pl_net.proofs.station.Station.backlog_at.Goals as goal

pub returns : goal.returns
returns c =
    subst (λ (v : StationView). (entries : List (Entry (Unit {0}))) → Holds v.waiting entries → option_copied c.get.result ≡ slice_get (map (λ entry. entry.envelope) (filter (is_for c.args.target) entries)) c.args.index) c.self.view_is
    c.get.ensures
