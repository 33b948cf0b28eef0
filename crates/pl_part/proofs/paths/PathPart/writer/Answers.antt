use Rattle.std.proofs.Common.{◌+◌, sym, ap, ◌∙◌}
use Rattle.std.specs.Prelude.{◌==◌}
use Rattle.std.proofs.lemmas.Bool.{cond-true, cond-false, eq-eqb, ne_eqb}
use Rattle.pl_part.specs.Paths.{PathPartView, writer_hop}
use Rattle.pl_part.proofs.paths.PathPart.writer.Goals as goal

pub returns-then-hop-eq0 : goal.returns-then-hop-eq0
returns-then-hop-eq0 g c =
    c.head_hop.ensures
    ∙ sym (cond-true (c.args.hop == 0) _ _ (eq-eqb _ _ c.if-hop-eq0.true))

pub returns-then-hop-self : goal.returns-then-hop-self
returns-then-hop-self g c =
    sym (cond-false (c.args.hop == 0) _ _ (ne_eqb _ _ c.if-hop-eq0.false) ∙ cond-true (c.args.hop == c.self.inside.tail_hop + 1) _ _ (eq-eqb _ _ c.if-hop-self.true))
    ∙ ap (λ (y : PathPartView g.row.S.Denot). writer_hop y c.args.hop) c.self.view_is

pub returns-else-hop-self : goal.returns-else-hop-self
returns-else-hop-self g c =
    sym (cond-false (c.args.hop == 0) _ _ (ne_eqb _ _ c.if-hop-eq0.false) ∙ cond-false (c.args.hop == c.self.inside.tail_hop + 1) _ _ (ne_eqb _ _ c.if-hop-self.false))
    ∙ ap (λ (y : PathPartView g.row.S.Denot). writer_hop y c.args.hop) c.self.view_is
