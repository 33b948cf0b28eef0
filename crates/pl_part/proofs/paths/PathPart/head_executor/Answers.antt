use Rattle.std.proofs.Common.{◌≡◌, ◌<◌, ℕ, length, get_or, sym, ap, ◌∙◌, arith}
use Rattle.std.proofs.lemmas.List.{get_or_read}
use Rattle.pl_part.specs.Paths.{PathPartView}
use Rattle.pl_part.specs.Shares.{executor_of}
use Rattle.pl_part.proofs.paths.PathPart.head_executor.Goals as goal

pub index-requires : goal.index-requires
index-requires g c =
    let last : c.head_hop.result ≡ length c.self.inside.contexts.items = c.head_hop.ensures ∙ ap (λ (y : PathPartView g.row.S.Denot). length y.contexts) (sym c.self.view_is) in
    omega (arith, last, c.self.invariant.hops_are, c.self.inside.executors.ok.0)

pub returns : goal.returns
returns g c =
    let last : c.head_hop.result ≡ length c.self.inside.contexts.items = c.head_hop.ensures ∙ ap (λ (y : PathPartView g.row.S.Denot). length y.contexts) (sym c.self.view_is) in
    let within : c.head_hop.result < length c.self.inside.executors.items = omega (arith, last, c.self.invariant.hops_are) in
    get_or_read c.self.inside.executors.items c.head_hop.result c.index.result.now within c.index.ensures 0
    ∙ ap (λ (n : ℕ). get_or c.self.inside.executors.items n 0) last
    ∙ ap (λ (y : PathPartView _). executor_of y (length y.contexts)) c.self.view_is
