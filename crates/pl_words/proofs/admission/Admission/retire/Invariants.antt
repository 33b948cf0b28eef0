use Rattle.pl_words.proofs.Gathering.{Gathers}
use Rattle.pl_words.proofs.admission.Admission.retire.Given as goal

abbrev pub invariant-loop-sender : goal.invariant-loop-sender
invariant-loop-sender l = Gathers l.fn.self l.fn.owner l.fn.seats.items l.owner.table_id l.owner.me.0 l.sender-iterator.rest.items
