use Rattle.std.proofs.Common.{rules, ap}
use Rattle.pl_words.proofs.AdmissionMoves.{begins}
use Rattle.pl_words.proofs.admission.Admission.begin_close.Goals as goal

pub fetch_or-requires : goal.fetch_or-requires
fetch_or-requires c = (search rules, search rules, begins _ _ _ _ (ap (λ m. m.0.owns) c.owner.invariant))
