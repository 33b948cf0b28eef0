-- What contracts see of a world, and what is true of each.
use Rattle.std.specs.Prelude.{◌≡◌, ℕ, ◌<◌, ◌≤◌, List, [], ◌∷◌, length, map, All, true, if◌then◌else◌, Result, IfOk, IfErr, OnOk}
use Rattle.std.specs.Borrow.{Bor}
use Rattle.pl_event.specs.declared.events.Event.{Event}
use Rattle.pl_event.specs.Meaning.{Meaning}
use Rattle.pl_build.specs.Pipelines.{PlacedView}
use Rattle.pl_build.specs.Paths.{IsPath}
use Rattle.pl_head.specs.declared.inputs.ReadPlan.{ReadPlan}
use Rattle.pl_head.specs.ReadSteps.{chunk_plan}
use Rattle.pl_head.specs.Transports.{TransportState, new_state}
use Rattle.pl_world.specs.declared.session.Recorded.{Recorded}
use Rattle.pl_world.specs.declared.worlds.WorldRefusal.{WorldRefusal}
use Rattle.pl_world.specs.declared.worlds.WorldRefusal.TheVariants as refusal
use Rattle.pl_build.specs.declared.limits.TheConstants.{MAX_EXECUTORS}
use Rattle.pl_world.specs.declared.limits.TheConstants.{MAX_CHANNELS}
use Rattle.pl_world.specs.Plans.{channel_planned, planned}
use Rattle.pl_world.specs.PlanRules.{IsPlan, IsSmallChannel, IsSmallPlan}
use Rattle.pl_world.specs.Limits.{input_fits, is_within}

-- recorded channels on a number of executors (ChannelPipeline.addLast)
pub record WorldView (S T : Type 0) : Type 0 where
  pub executors : ℕ
  pub channels : List (Recorded S T)

-- no call of a transport was made
abbrev pub IsUncalled : TransportState → Type 0
IsUncalled state = state ≡ new_state state.window state.fail_at

-- what each channel is to read, by the chunks of each of its bursts
abbrev pub chunk_plans : List (Bor (List (Bor (List (Bor (List ℕ)))))) → List ReadPlan
chunk_plans inputs = map (λ input. chunk_plan input.now) inputs

-- each pipeline with its input and its transport
abbrev pub recorded : {S T : Type 0} → List (PlacedView S) → List ReadPlan → List T → List (Recorded S T)
recorded [] inputs transports = []
recorded (pipeline ∷ pipelines) [] transports = []
recorded (pipeline ∷ pipelines) (input ∷ inputs) [] = []
recorded (pipeline ∷ pipelines) (input ∷ inputs) (transport ∷ transports) =
    record { pipeline = pipeline; input = input; transport = transport } ∷ recorded pipelines inputs transports

-- A channel that a world can have: built, placed, within the limits, its transport not called. On a given number of
-- executors its pipeline is as it was built, each of its hops has an executor that is there, its input is within the
-- limits, and its data lanes have few items.
pub record FitsLimits {S T : Type 0} (meaning : S → Meaning) (stands_after : S → List Event → Type 0) (state : T → TransportState) (executors : ℕ) (c : Recorded S T) : Type 0 where
  pub path : IsPath meaning stands_after c.pipeline
  pub placed : All (λ executor. executor < executors) c.pipeline.executors
  pub input : input_fits c.input ≡ true
  pub transport : IsUncalled (state c.transport)
  pub small : IsSmallChannel (channel_planned meaning state c)

-- The data lanes of a world have few items. It is so where these make one within its limits.
abbrev pub HaveSmallLanes : {S T : Type 0} → (S → Meaning) → (S → List Event → Type 0) → (T → TransportState) → List (PlacedView S) → List ReadPlan → List T → ℕ → Type 0
HaveSmallLanes meaning stands_after state pipelines inputs transports executors =
    is_within pipelines inputs transports executors ≡ true → All (IsPath meaning stands_after) pipelines
    → All (λ c. IsSmallChannel (channel_planned meaning state c)) (recorded pipelines inputs transports)

-- What is answered where a world is to be made of these, on so many executors (ChannelPipeline).
pub record AnswersWorld {S T : Type 0} (pipelines : List (PlacedView S)) (inputs : List ReadPlan) (transports : List T) (count : ℕ) (made : Result (WorldView S T) WorldRefusal) : Type 0 where
  pub executors : IfOk made (λ world. world.executors ≡ count)
  -- each channel has what was given for it, in order
  pub channels : IfOk made (λ world. world.channels ≡ recorded pipelines inputs transports)
  -- it is made only within the limits
  pub allowed : OnOk made (is_within pipelines inputs transports count ≡ true)
  -- it is refused as `Limit` exactly past them, and else only as `Memory`
  pub refused : IfErr made (λ e. e ≡ (if is_within pipelines inputs transports count then refusal.Memory else refusal.Limit))

-- What holds of every world (ChannelPipeline): it is within its limits, and its transports were not called. It has at
-- most MAX_CHANNELS channels on at most MAX_EXECUTORS executors, with inputs within their limits. Their plan keeps to
-- the rules, whatever the capacity of its queues, and its data lanes have few items.
pub record IsWorld {S T : Type 0} (meaning : S → Meaning) (state : T → TransportState) (w : WorldView S T) : Type 0 where
  pub executors : w.executors ≤ MAX_EXECUTORS
  pub channels : length w.channels ≤ MAX_CHANNELS
  pub inputs : All (λ c. input_fits c.input ≡ true) w.channels
  pub transports : All (λ c. IsUncalled (state c.transport)) w.channels
  pub ruled : (capacity : ℕ) → 1 ≤ capacity → IsPlan (planned meaning state capacity w.executors w.channels)
  pub small : (capacity : ℕ) → IsSmallPlan (planned meaning state capacity w.executors w.channels)
