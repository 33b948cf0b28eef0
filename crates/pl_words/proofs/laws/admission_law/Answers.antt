use Rattle.std.proofs.Common.{◌≡◌, ◌+◌, ◌*◌, ap, sym, ◌∙◌, arith}
use Rattle.pl_words.specs.Phases.{rank}
use Rattle.pl_words.specs.AdmissionRule.{total, kept_and_trial}
use Rattle.pl_words.proofs.AdmissionMoves.{saw_closed}
use Rattle.pl_words.proofs.laws.admission_law.Goals as goal

pub returns-clause-word : goal.returns-clause-word
returns-clause-word c = λ senders words notes owner r o owns. r.word ∙ ap (λ p. 4 * total kept_and_trial notes + rank p) (sym ((r.each o.0 owner o.1).owns owns).1)

pub returns-clause-seen : goal.returns-clause-seen
returns-clause-seen c = λ senders words notes owner v r o owns a.
    (let below = (r.each a.0 v a.1).seen in let same : rank owner.phase ≡ rank r.phase = ap rank ((r.each o.0 owner o.1).owns owns).1 in omega arith)

pub returns-clause-trial : goal.returns-clause-trial
returns-clause-trial c = λ senders words notes owner v r o owns a some_.
    ((r.each o.0 owner o.1).owns owns).1 ∙ saw_closed r.phase (r.each a.0 v a.1) ((r.each a.0 v a.1).late some_)

pub returns-clause-closed : goal.returns-clause-closed
returns-clause-closed c = λ senders words notes owner r o owns closed.
    (let mine = (r.each o.0 owner o.1).owns owns in r.closed (sym mine.1 ∙ closed) ∙ sym mine.2)
