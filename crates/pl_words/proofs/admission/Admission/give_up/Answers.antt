use Rattle.std.proofs.Common.{rules}
use Rattle.pl_words.proofs.AdmissionMoves.{gives_up}
use Rattle.pl_words.proofs.admission.Admission.give_up.Goals as goal

pub fetch_sub-word-requires : goal.fetch_sub-word-requires
fetch_sub-word-requires c = (search rules, search rules, gives_up _ _ _ _ (search rules))
