use Rattle.std.proofs.Common.{◌<◌, ℕ, length, get_or, sym, ap, subst, ◌∙◌}
use Rattle.std.proofs.lemmas.List.{get_or_read}
use Rattle.pl_part.specs.Paths.{PathPartView}
use Rattle.pl_part.proofs.paths.PathPart.target.Goals as goal

pub index-requires : goal.index-requires
index-requires g c =
    subst (λ (n : ℕ). c.args.hop < n) (sym c.self.inside.executors.ok.0) (subst (λ (y : PathPartView _). c.args.hop < length y.executors) (sym c.self.view_is) c.requires)

pub returns : goal.returns
returns g c =
    get_or_read c.self.inside.executors.items c.args.hop c.index.result.now (subst (λ (y : PathPartView _). c.args.hop < length y.executors) (sym c.self.view_is) c.requires) c.index.ensures 0
    ∙ ap (λ (y : PathPartView _). get_or y.executors c.args.hop 0) c.self.view_is
