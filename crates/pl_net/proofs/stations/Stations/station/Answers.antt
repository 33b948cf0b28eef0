use Rattle.std.proofs.Common.{◌∙◌, List, slice_get, ap}
use Rattle.pl_context.proofs.ListEdits.{copied-item}
use Rattle.pl_net.specs.Nets.{StationView}
use Rattle.pl_net.proofs.stations.Stations.station.Goals as goal

pub returns : goal.returns
returns g c = copied-item c.deref.result.now c.args.executor c.get.result c.get.ensures.lookup ∙ ap (λ (es : List StationView). slice_get es c.args.executor) c.deref.ensures.value
