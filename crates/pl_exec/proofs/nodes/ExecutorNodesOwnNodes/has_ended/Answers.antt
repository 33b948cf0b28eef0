use Rattle.std.proofs.Common.{List, get_or, sym, subst}
use Rattle.std.specs.Prelude.{All}
use Rattle.std.proofs.lemmas.Option.{slice_get-get_or}
use Rattle.pl_part.specs.Parts.{ChannelPartView, PartHolds}
use Rattle.pl_exec.specs.ExecutorNodes.{IsPartOver}
use Rattle.pl_exec.proofs.PartsHere.{all-over, part-at}
use Rattle.pl_exec.proofs.nodes.ExecutorNodesOwnNodes.has_ended.Goals as goal

pub are_over-requires : goal.are_over-requires
are_over-requires g c =
    let n = c.args.self.now in (
      g.W.Named.world,
      subst (λ (l : List (ChannelPartView g.row.S.Denot g.row.T.Denot)). All (PartHolds g.W.Named.world g.S.Stage.meaning g.S.Stage.stands_after g.T.Transport.state) l) (sym c.as_slice.ensures.value)
          (λ k d lt. (c.requires.stands.nodes.parts (get_or n.here.items k 0) (get_or n.parts.items k d) (part-at g.W.Planned.plan n c.requires.stands.in_order k (get_or n.parts.items k d) (slice_get-get_or n.parts.items k d lt))).holds),
    )

pub returns-clause-over : goal.returns-clause-over
returns-clause-over g c = λ t.
    all-over g.W.Planned.plan c.args.self.now c.requires.stands.in_order g.T.Transport.state
    (subst (λ (l : List (ChannelPartView g.row.S.Denot g.row.T.Denot)). All (IsPartOver g.T.Transport.state) l) c.as_slice.ensures.value (c.are_over.ensures.over t))

pub returns-clause-not_over : goal.returns-clause-not_over
returns-clause-not_over g c = λ off over.
    let n = c.args.self.now in
    c.are_over.ensures.not_over off (subst (λ (l : List (ChannelPartView g.row.S.Denot g.row.T.Denot)). All (IsPartOver g.T.Transport.state) l) (sym c.as_slice.ensures.value)
    (λ k d lt. over (get_or n.here.items k 0) (get_or n.parts.items k d) (part-at g.W.Planned.plan n c.requires.stands.in_order k (get_or n.parts.items k d) (slice_get-get_or n.parts.items k d lt))))
