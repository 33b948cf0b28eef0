use Rattle.std.proofs.Common.{◌∙◌, slice_get, ap}
use Rattle.pl_net.specs.declared.stations.Stations.{Stations}
use Rattle.pl_replay.specs.declared.channels.Channels.{Channels}
use Rattle.pl_replay.proofs.nets.Net.station.Goals as goal

pub returns : goal.returns
returns g c = c.station.ensures ∙ ap (λ (k : Stations (Channels g.row.S.Denot g.row.T.Denot)). slice_get k.stations.items c.args.executor) c.self.view_is
