-- The stages of a channel of a plan, as they are given back.
use Rattle.std.specs.Prelude.{◌≡◌, ℕ, List, ◌∷◌, ◌++◌, length, map, get_or, replicate, Option, Some, None, is_some, true, false}
use Rattle.pl_event.specs.declared.events.Event.{Event}
use Rattle.pl_part.specs.declared.kept.KeptStage.{KeptStage}
use Rattle.pl_part.specs.LaneStages.{LaneStage}
use Rattle.pl_world.specs.Plans.{ChannelPlan, content}

-- By hop each handler has its stage, and the tail has none. Each stands after the first events of what all handlers before it, as
-- whole lists, make of the recorded input, and after all of them where its context has ended.
pub record HasLaneStages {S : Type 0} (stands_after : S → List Event → Type 0) (p : ChannelPlan) (stages : List (Option (KeptStage S))) : Type 0 where
  pub filled : map (λ (slot : Option (KeptStage S)). is_some slot) stages ≡ replicate (length p.inbound) true ++ false ∷ replicate (length p.outbound) true
  pub each : (hop : ℕ) (k : KeptStage S) → get_or stages hop None ≡ Some k → LaneStage stands_after (content p hop) k.standing k.stage
