use Rattle.std.proofs.Common.{◌≡◌, ◌++◌, List, ℕ, length}
use Rattle.pl_part.specs.Told.{IsTold, part_untold}
use Rattle.pl_exec.specs.SessionWords.{AreSeatsOf, TriesEach}
use Rattle.pl_exec.specs.Telling.{part_outcomes}
use Rattle.pl_exec.proofs.telling.settle.Given as goal

-- The first writes that had ended are settled.
abbrev pub invariant-loop-n : goal.invariant-loop-n
invariant-loop-n g l = record {
  own : AreSeatsOf l.words l.channel l.seats;
  mark : l.seats.mark ≡ l.initial.seats.mark;
  told : IsTold l.initial.part l.part;
  settled : (done : List ℕ) × (done ++ part_untold l.part ≡ part_untold l.initial.part) × TriesEach (part_outcomes l.initial.part) done l.initial.seats.settle l.seats.settle;
}

abbrev pub decreases-loop-n : goal.decreases-loop-n
decreases-loop-n g l = length (part_untold l.part)
