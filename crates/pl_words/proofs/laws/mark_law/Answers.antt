use Rattle.std.proofs.Common.{◌+◌, ◌*◌, sym, ◌∙◌, arith}
use Rattle.pl_words.specs.WatermarkRule.{bit}
use Rattle.pl_words.proofs.laws.mark_law.Goals as goal

pub returns-clause-word : goal.returns-clause-word
returns-clause-word c = λ words notes head r h owns.
    (let mine = (r.each h.0 head h.1).heads owns in r.word ∙ (λ i. 2 * sym mine.1 i + bit (sym mine.2 i)))

pub returns-clause-version : goal.returns-clause-version
returns-clause-version c = λ words notes head v r h owns a.
    (let mine = ((r.each h.0 head h.1).heads owns).1 in let below = (r.each a.0 v a.1).version in omega arith)

pub returns-clause-flag : goal.returns-clause-flag
returns-clause-flag c = λ words notes head v r h owns a same.
    (let mine = (r.each h.0 head h.1).heads owns in (r.each a.0 v a.1).same (same ∙ mine.1) ∙ sym mine.2)
