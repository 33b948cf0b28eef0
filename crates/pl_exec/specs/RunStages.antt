-- The stages that a run leaves, and all that it leaves.
use Rattle.std.specs.Global.{Vec}
use Rattle.std.specs.Prelude.{◌≡◌, ◌≢◌, ℕ, ◌<◌, ◌≤◌, true, List, [], ◌∷◌, map, get_or, Option, Some, None}
use Rattle.std.specs.List.{AllZip}
use Rattle.std.specs.Option.{option_or}
use Rattle.pl_event.specs.declared.events.Event.{Event}
use Rattle.pl_context.specs.Standings.{is_over}
use Rattle.pl_part.specs.declared.kept.KeptStage.{KeptStage}
use Rattle.pl_part.specs.LaneStages.{LaneStage}
use Rattle.pl_part.specs.Keeping.{part_stages}
use Rattle.pl_part.specs.Parts.{ChannelPartView}
use Rattle.pl_world.specs.Plans.{ChannelPlan, Plan, content, planned_head_hop, tail_hop}
use Rattle.pl_exec.specs.declared.reporting.Ran.{Ran}
use Rattle.pl_exec.specs.Reported.{IsRunReport}

-- The stages of a channel of a plan, by hop: each handler has one, and the tail none. The context of each has ended or failed; it
-- stands after the first events of what all handlers before it, as whole lists, make of the recorded input, and after all of them
-- where its context has ended.
pub record HasRunStages {S : Type 0} (stands_after : S → List Event → Type 0) (p : ChannelPlan) (stages : List (Option (KeptStage S))) : Type 0 where
  pub each : (hop : ℕ) → hop < planned_head_hop p → hop ≢ tail_hop p
      → (k : KeptStage S) × (get_or stages hop None ≡ Some k) × LaneStage stands_after (content p hop) k.standing k.stage × (is_over k.standing ≡ true)
  pub tail : get_or stages (tail_hop p) None ≡ None
  pub past : (hop : ℕ) → planned_head_hop p ≤ hop → get_or stages hop None ≡ None

-- by channel its stages, by hop
abbrev pub slots_in : {S : Type 0} → List (Vec (Option (KeptStage S))) → List (List (Option (KeptStage S)))
slots_in rows = map (λ row. row.items) rows

-- so it is with all channels of a plan
abbrev pub HaveRunStages : {S : Type 0} → (S → List Event → Type 0) → Plan → List (Vec (Option (KeptStage S))) → Type 0
HaveRunStages stands_after plan rows = AllZip (HasRunStages stands_after) plan.channels (slots_in rows)

-- What a run of a plan leaves. It leaves the report, and the stages.
pub record IsRan {S : Type 0} (stands_after : S → List Event → Type 0) (plan : Plan) (ran : Ran S) : Type 0 where
  pub report : IsRunReport plan ran.report
  pub stages : HaveRunStages stands_after plan ran.stages.items

-- ---- as far as they were found

-- slots, of which each that is empty has what is at its place among others
abbrev pub filled_up : {A : Type 0} → List (Option A) → List (Option A) → List (Option A)
filled_up [] others = []
filled_up (slot ∷ slots) [] = slot ∷ slots
filled_up (slot ∷ slots) (other ∷ others) = option_or slot other ∷ filled_up slots others

-- with those among the nodes of a part
abbrev pub with_stages : {S T : Type 0} → List (Option (KeptStage S)) → ChannelPartView S T → List (Option (KeptStage S))
with_stages found part = filled_up (part_stages part) found
