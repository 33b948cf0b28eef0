use Rattle.std.proofs.Common.{sym, ap, inl, inr}
use Rattle.pl_head.specs.Failures.{failure_outcome}
use Rattle.pl_head.proofs.heads.outcome_of.Goals as goal

pub returns-in-Transport : goal.returns-in-Transport
returns-in-Transport c = sym (ap failure_outcome c.in-Transport.is)

pub returns-in-Memory : goal.returns-in-Memory
returns-in-Memory c =
    elim c.in-Memory.is
    [ inl memory ↦ sym (ap failure_outcome memory) | inr other ↦ elim other [ inl aborted ↦ sym (ap failure_outcome aborted) | inr refused ↦ sym (ap failure_outcome refused) ] ]
