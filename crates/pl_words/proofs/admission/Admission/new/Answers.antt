use Rattle.std.proofs.Common.{rules, ap, arith}
use Rattle.pl_words.proofs.AdmissionMoves.{deals}
use Rattle.pl_words.proofs.admission.Admission.new.Goals as goal

pub split_seat-seat-requires : goal.split_seat-seat-requires
split_seat-seat-requires c = (search rules, search rules, deals _ _ _ _ (ap (λ m. m.0) c.loop-number.invariant.1) (omega arith))
