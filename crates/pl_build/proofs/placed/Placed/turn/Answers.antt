use Rattle.std.proofs.Common.{length, ap, arith}
use Rattle.pl_build.specs.Pipelines.{PlacedView}
use Rattle.pl_build.proofs.PathLemmas.{turn_within}
use Rattle.pl_build.proofs.placed.Placed.turn.Goals as goal

pub returns-clause-within : goal.returns-clause-within
returns-clause-within g c =
    let same = ap (λ (p : PlacedView g.row.S.Denot). length p.inbound) c.self.view_is in
    omega (arith, same, c.self.invariant.1, turn_within g.S.Stage.meaning c.self.inside.inbound.items c.self.invariant.0.turn)
