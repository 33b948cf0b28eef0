use Rattle.std.proofs.Common.{◌≡◌, ℕ, Bool, drop}
use Rattle.std.specs.List.{All, find}
use Rattle.std.specs.Map.{keys_of}
use Rattle.pl_context.proofs.fronts.Fronts.oldest.Given as goal

-- None is open among those before.
abbrev pub invariant-loop-target : goal.invariant-loop-target
invariant-loop-target g l =
    (opens : ℕ → Bool) → All (λ target. (answer : Bool) → goal.F-post g l.is_open target answer → answer ≡ opens target) (keys_of l.self.ages)
    → find opens (keys_of l.self.ages) ≡ find opens (drop l.target-index (keys_of l.self.ages))
