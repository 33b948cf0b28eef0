use Rattle.std.proofs.Common.{ℕ, ◌%◌, ◌==◌, ◌∙◌, ap, zero-add}
use Rattle.pl_event.proofs.FittingLemmas.{events-prefix, events-whole, nothing-follows, flags-alternate}
use Rattle.pl_event.proofs.fitting_laws.fitting_law.Goals as goal

pub returns-clause-begins : goal.returns-clause-begins
returns-clause-begins c = λ content items h. events-prefix content 0 items h

pub returns-clause-whole : goal.returns-clause-whole
returns-clause-whole c = λ content items h. events-whole content 0 items h

pub returns-clause-last : goal.returns-clause-last
returns-clause-last c = λ content items more i last h. nothing-follows content 0 items more i last h

pub returns-clause-flags : goal.returns-clause-flags
returns-clause-flags c = λ items n value h at_n. flags-alternate 0 items n value h at_n ∙ ap (λ (k : ℕ). k % 2 == 1) (zero-add n)
