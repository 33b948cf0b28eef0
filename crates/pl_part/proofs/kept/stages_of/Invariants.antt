use Rattle.std.proofs.Common.{◌≡◌}
use Rattle.pl_part.specs.Keeping.{kept_stages}
use Rattle.pl_part.proofs.kept.stages_of.Given as goal

-- The stages of the slots so far are kept.
abbrev pub invariant-loop-slot : goal.invariant-loop-slot
invariant-loop-slot g l = l.stages.items ≡ kept_stages l.yielded
