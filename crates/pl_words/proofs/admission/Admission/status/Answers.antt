use Rattle.std.proofs.Common.{rules}
use Rattle.pl_words.proofs.AdmissionMoves.{looks}
use Rattle.pl_words.proofs.admission.Admission.status.Goals as goal

pub load-requires : goal.load-requires
load-requires c = (search rules, search rules, looks _ _ _ _)
