use Rattle.std.proofs.Common.{◌≡◌, drop}
use Rattle.pl_part.specs.Paths.{slots_stand}
use Rattle.pl_part.proofs.paths.PathPart.standing.Given as goal

-- How those that are left stand together with what was found so far.
abbrev pub invariant-loop-slot : goal.invariant-loop-slot
invariant-loop-slot g l = slots_stand l.standing (drop l.slot-index l.slot-items) ≡ slots_stand l.initial.standing l.slot-items
