use Rattle.std.proofs.Common.{◌∙◌, ap}
use Rattle.std.specs.List.{slice_get}
use Rattle.pl_context.specs.Backlogs.{BacklogView}
use Rattle.pl_context.proofs.ListEdits.{copied-item}
use Rattle.pl_context.proofs.backlog.Backlog.get.Goals as goal

pub returns : goal.returns
returns g c = copied-item c.self.inside.entries.items c.args.index c.get.result c.get.ensures.item ∙ ap (λ (b : BacklogView g.row.A.Denot). slice_get b.items c.args.index) c.self.view_is
