use Rattle.std.proofs.Common.{◌≡◌, [], map, take}
use Rattle.std.specs.List.{All}
use Rattle.pl_context.specs.Stops.{no_stops}
use Rattle.pl_context.proofs.waiting.Waiting.new.Given as goal

abbrev pub invariant-loop-count : goal.invariant-loop-count
invariant-loop-count g l =
    All (λ b. b.items ≡ []) l.targets.items × (map (λ b. b.stopped) l.targets.items ≡ map no_stops (take l.count-index l.places))
