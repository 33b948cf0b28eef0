use Rattle.std.proofs.Common.{rules, ap}
use Rattle.pl_words.proofs.AdmissionMoves.{finishes}
use Rattle.pl_words.proofs.admission.Admission.finish.Goals as goal

pub compare_exchange-found-requires : goal.compare_exchange-found-requires
compare_exchange-found-requires c = (search rules, search rules, finishes _ _ _ _ _ (ap (λ m. m.0.owns) c.owner.invariant))
