-- The stage of a hop, by what its lane carries in all.
use Rattle.std.specs.Prelude.{◌≡◌, ◌≢◌, ℕ, ◌≤◌, List, length, take}
use Rattle.pl_event.specs.declared.events.Event.{Event}
use Rattle.pl_event.specs.declared.outcomes.Cause.TheVariants.{Memory}
use Rattle.pl_context.specs.declared.standing.Standing.{Standing}
use Rattle.pl_context.specs.declared.standing.Standing.TheVariants as standings

-- A stage, whose context stands so and whose lane carries these events, stands after the first of them, and where the context has
-- ended after all. (Where it has failed out of memory the stage may have met a fault, and nothing is said of it.)
pub record LaneStage {S : Type 0} (stands_after : S → List Event → Type 0) (events : List Event) (standing : Standing) (stage : S) : Type 0 where
  pub begun : standing ≢ standings.Failed Memory → (n : ℕ) × (n ≤ length events) × stands_after stage (take n events)
  pub whole : standing ≡ standings.Ended → stands_after stage events
