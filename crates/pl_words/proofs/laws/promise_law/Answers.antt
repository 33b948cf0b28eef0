use Rattle.std.proofs.Common.{ℕ, List, get_or, ap, sym, ◌∙◌}
use Rattle.std.proofs.lemmas.Option.{same_Some}
use Rattle.pl_words.specs.PromiseRule.{code_of}
use Rattle.pl_words.proofs.PromiseMoves.{word_at}
use Rattle.pl_words.proofs.laws.promise_law.Goals as goal

pub returns-clause-word : goal.returns-clause-word
returns-clause-word c = λ size words notes v n outcome r a seen.
    ap (λ (l : List ℕ). get_or l n 0) r.words_are ∙ (word_at r.outcomes n ∙ ap code_of ((r.each a.0 v a.1).seen.1 n outcome seen))

pub returns-clause-settled : goal.returns-clause-settled
returns-clause-settled c = λ size words notes v n outcome r a seen. r.by_seats n outcome ((r.each a.0 v a.1).seen.1 n outcome seen)

pub returns-clause-agree : goal.returns-clause-agree
returns-clause-agree c = λ size words notes v w n first second r a b one other.
    same_Some first second (sym ((r.each a.0 v a.1).seen.1 n first one) ∙ (r.each b.0 w b.1).seen.1 n second other)
