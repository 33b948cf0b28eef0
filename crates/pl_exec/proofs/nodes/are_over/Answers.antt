use Rattle.std.proofs.Common.{List, sym, subst}
use Rattle.std.specs.Prelude.{All}
use Rattle.std.proofs.lemmas.List.{take_all}
use Rattle.std.proofs.lemmas.List.Elements.{All-more}
use Rattle.pl_part.specs.Parts.{ChannelPartView, PartHolds}
use Rattle.pl_exec.specs.ExecutorNodes.{IsPartOver}
use Rattle.pl_exec.proofs.nodes.are_over.Goals as goal

pub is_over-requires : goal.is_over-requires
is_over-requires g c =
    let p = c.part-item.result in
    record { holds = (c.requires.0, subst (PartHolds c.requires.0 g.S.Stage.meaning g.S.Stage.stands_after g.T.Transport.state) (sym c.part-item.is) (c.requires.1 c.loop-part.part-index p c.loop-part-test.true)) }

pub returns-then-not-is_over-clause-not_over : goal.returns-then-not-is_over-clause-not_over
returns-then-not-is_over-clause-not_over g c = λ e over.
    c.is_over.ensures.not_over c.if-not-is_over.true (subst (IsPartOver g.T.Transport.state) (sym c.part-item.is) (over c.loop-part.part-index c.part-item.result c.loop-part-test.true))

pub loop-part-preserved : goal.loop-part-preserved
loop-part-preserved g c =
    All-more (IsPartOver g.T.Transport.state) c.args.parts.now c.loop-part.part-index c.part-item.result c.loop-part-test.true c.loop-part.invariant
    (subst (IsPartOver g.T.Transport.state) c.part-item.is (c.is_over.ensures.over c.if-not-is_over.false))

pub returns-clause-over : goal.returns-clause-over
returns-clause-over g c = λ e.
    subst (λ (l : List (ChannelPartView g.row.S.Denot g.row.T.Denot)). All (IsPartOver g.T.Transport.state) l) (take_all c.loop-part.part-index c.args.parts.now c.loop-part-test.false) c.loop-part.invariant
