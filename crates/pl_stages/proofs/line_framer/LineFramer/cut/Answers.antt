use Rattle.std.proofs.Common.{◌∙◌}
use Rattle.std.proofs.lemmas.Result.{on_ok_weaker}
use Rattle.pl_event.specs.Meaning.{IsPrefixOf-trans}
use Rattle.pl_stages.proofs.Framing.{Resumes-closed, Resumes-open, after_feed}
use Rattle.pl_stages.proofs.line_framer.LineFramer.cut.Goals as goal

pub loop-end-preserved : goal.loop-end-preserved
loop-end-preserved c = record {
  max = c.close.ensures.max ∙ c.loop-end.invariant.max;
  resumes = λ segment none keeps.
      let line = rw (c.loop-end.invariant.max, c.split_at.ensures.front) at c.in_ok-close.ensures.line in
      let empty = rw c.loop-end.invariant.max at c.in_ok-close.ensures.empty in
      rw (after_feed c.loop-end.rest.now c.split_at.result.1.now c.in-Some.end c.split_at.ensures.back)
      (Resumes-closed _ _ _ _ _ _ _ _ _ _ _ (c.loop-end.invariant.resumes segment none keeps) c.in-Some.ensures empty line);
  begins = IsPrefixOf-trans _ _ _ c.loop-end.invariant.begins c.close.ensures.begins;
}

pub returns-clause-kept : goal.returns-clause-kept
returns-clause-kept c =
    on_ok_weaker c.keep.result
    (λ kept segment none keeps. (Resumes-open _ _ _ _ _ _ _ _ _ (c.loop-end.invariant.resumes segment none keeps) c.in_default.ensures kept).0)
    (rw c.loop-end.invariant.max at c.keep.ensures.kept)

pub returns-clause-lines : goal.returns-clause-lines
returns-clause-lines c =
    on_ok_weaker c.keep.result
    (λ kept segment none keeps. (Resumes-open _ _ _ _ _ _ _ _ _ (c.loop-end.invariant.resumes segment none keeps) c.in_default.ensures kept).1)
    (rw c.loop-end.invariant.max at c.keep.ensures.kept)
