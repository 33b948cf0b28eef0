use Rattle.std.proofs.Common.{sym, ◌∙◌}
use Rattle.std.proofs.lemmas.Bool.{false≢true}
use Rattle.pl_exec.proofs.OverLemmas.{written-over}
use Rattle.pl_exec.proofs.nodes.is_over.Goals as goal

pub returns-then-not-has_read_step-clause-not_over : goal.returns-then-not-has_read_step-clause-not_over
returns-then-not-has_read_step-clause-not_over g c = λ off over.
    false≢true (sym off ∙ written-over c.requires.holds.0 g.S.Stage.meaning g.S.Stage.stands_after g.T.Transport.state c.args.part.now c.requires.holds.1 over c.is_written.result c.is_written.ensures.head c.is_written.ensures.none)
