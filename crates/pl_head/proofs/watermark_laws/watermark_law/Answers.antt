use Rattle.pl_head.proofs.MarkLaws.{pending_exactly, unwritable_exactly, change_turns, alternate_from, never_back}
use Rattle.pl_head.specs.Marks.{levels}
use Rattle.std.proofs.Common.{false}
use Rattle.pl_head.proofs.watermark_laws.watermark_law.Goals as goal

pub returns-clause-pending : goal.returns-clause-pending
returns-clause-pending c = λ cs h. pending_exactly cs h

pub returns-clause-unwritable : goal.returns-clause-unwritable
returns-clause-unwritable c = λ low high cs h. unwritable_exactly low high cs h

pub returns-clause-change : goal.returns-clause-change
returns-clause-change c = λ low high cs d. change_turns low high cs d

pub returns-clause-alternate : goal.returns-clause-alternate
returns-clause-alternate c = λ low high cs. alternate_from low high false (levels cs)

pub returns-clause-low_zero : goal.returns-clause-low_zero
returns-clause-low_zero c = λ high cs more h. never_back high cs more h
