-- The stages that the nodes of a channel keep, as they are given back.
use Rattle.std.specs.Prelude.{◌≡◌, ℕ, List, map, get_or, Option, Some, None}
use Rattle.std.specs.Option.{option_map}
use Rattle.pl_event.specs.declared.events.Event.{Event}
use Rattle.pl_event.specs.Hops.{data_lane}
use Rattle.pl_event.specs.Worlds.{World, content_of}
use Rattle.pl_context.specs.ContextViews.{ContextView}
use Rattle.pl_part.specs.declared.kept.KeptStage.{KeptStage}
use Rattle.pl_part.specs.LaneStages.{LaneStage}
use Rattle.pl_part.specs.Parts.{ChannelPartView}

-- a context's stage, with how it stands
abbrev pub kept_stage : {S : Type 0} → ContextView S → KeptStage S
kept_stage c = record { standing = c.standing; stage = c.stage }

-- those of contexts, by hop
abbrev pub kept_stages : {S : Type 0} → List (Option (ContextView S)) → List (Option (KeptStage S))
kept_stages contexts = map (λ slot. option_map kept_stage slot) contexts

-- the stages of a part's contexts, by hop, each with how its context stands
abbrev pub part_stages : {S T : Type 0} → ChannelPartView S T → List (Option (KeptStage S))
part_stages p = kept_stages p.path.contexts

-- Of each hop of a channel that has a stage the world knows what its lane carries, and that stage goes by it.
pub record AreLaneStages {S : Type 0} (world : World) (stands_after : S → List Event → Type 0) (channel : ℕ) (stages : List (Option (KeptStage S))) : Type 0 where
  pub each : (hop : ℕ) (k : KeptStage S) → get_or stages hop None ≡ Some k
      → (events : List Event) × (content_of world (data_lane channel hop) ≡ Some events) × LaneStage stands_after events k.standing k.stage
