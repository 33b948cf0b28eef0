-- A pipeline is a list of handlers, and its edits are edits of that list (Netty's ChannelPipeline, "Building a pipeline").
use Rattle.std.specs.Prelude.{ℕ, List, [], Bool, not, Option, map, filter, reverse, position, remove, All, Result, Ok, Err, find}
use Rattle.std.specs.Option.{option_map_or}
use Rattle.std.specs.List.{take_while, position_or_len}
use Rattle.std.specs.Str.{bytes_eq}
use Rattle.pl_event.specs.declared.events.Event.{Event}
use Rattle.pl_event.specs.Meaning.{Meaning}
use Rattle.pl_event.specs.Paths as path
use Rattle.pl_build.specs.declared.named_stages.NamedStage.{NamedStage}
use Rattle.pl_build.specs.declared.faults.BuildFault.{BuildFault}
use Rattle.pl_build.specs.declared.faults.BuildFault.TheVariants.{NoSuchName}

-- A pipeline that is being built (ChannelPipeline). It has its handlers from first to last, and the marks of its
-- channel in bytes.
pub record PipelineBuilderView (S : Type 0) : Type 0 where
  pub handlers : List (NamedStage S)
  pub low : ℕ
  pub high : ℕ

-- A pipeline that is built. Kept of it are its two chains, the executor of each hop, and the marks.
pub record PlacedView (S : Type 0) : Type 0 where
  pub inbound : List S
  pub outbound : List S
  pub executors : List ℕ
  pub low : ℕ
  pub high : ℕ

-- a handler with its name and its group
abbrev pub handler_of : {S : Type 0} → List ℕ → Option (List ℕ) → S → NamedStage S
handler_of name group stage = record { name = name; group = group; stage = stage }

abbrev pub is_named : {S : Type 0} → List ℕ → NamedStage S → Bool
is_named name handler = bytes_eq handler.name name

-- the index of the handler of this name
abbrev pub index_of : {S : Type 0} → List ℕ → List (NamedStage S) → Option ℕ
index_of name handlers = position (is_named name) handlers

-- the handlers without the one of this name
abbrev pub without : {S : Type 0} → List ℕ → List (NamedStage S) → List (NamedStage S)
without name handlers = option_map_or (λ index. remove handlers index) (index_of name handlers) handlers

-- the stage of the handler of this name
abbrev pub stage_of : {S : Type 0} → List ℕ → List (NamedStage S) → Result S BuildFault
stage_of name handlers = option_map_or (λ handler. Ok handler.stage) (find (is_named name) handlers) (Err NoSuchName)

-- What the handlers' stages mean. From that their path is known.
abbrev pub meanings : {S : Type 0} → (S → Meaning) → List (NamedStage S) → List Meaning
meanings meaning handlers = map (λ handler. meaning handler.stage) handlers

abbrev pub is_outbound_stage : {S : Type 0} → (S → Meaning) → NamedStage S → Bool
is_outbound_stage meaning handler = path.is_outbound (meaning handler.stage).direction

abbrev pub is_inbound : {S : Type 0} → (S → Meaning) → NamedStage S → Bool
is_inbound meaning handler = not (is_outbound_stage meaning handler)

abbrev pub is_turn_stage : {S : Type 0} → (S → Meaning) → NamedStage S → Bool
is_turn_stage meaning handler = path.is_turn (meaning handler.stage).direction

-- the handlers that inbound events visit, first to last
abbrev pub inbound_handlers : {S : Type 0} → (S → Meaning) → List (NamedStage S) → List (NamedStage S)
inbound_handlers meaning handlers = filter (is_inbound meaning) handlers

-- the handlers before the turn
abbrev pub stages_before_turn : {S : Type 0} → (S → Meaning) → List (NamedStage S) → List (NamedStage S)
stages_before_turn meaning handlers = take_while (λ handler. not (is_turn_stage meaning handler)) handlers

-- the handlers that the turn's writes visit, nearest first
abbrev pub outbound_handlers : {S : Type 0} → (S → Meaning) → List (NamedStage S) → List (NamedStage S)
outbound_handlers meaning handlers = reverse (filter (is_outbound_stage meaning) (stages_before_turn meaning handlers))

-- the turn's hop: its index in the inbound chain
abbrev pub hop_of_turn : {S : Type 0} → (S → Meaning) → List S → ℕ
hop_of_turn meaning inbound = position_or_len (λ stage. path.is_turn (meaning stage).direction) inbound

-- no stage has had a step
abbrev pub AreNew : {S : Type 0} → (S → List Event → Type 0) → List (NamedStage S) → Type 0
AreNew stands_after handlers = All (λ handler. stands_after handler.stage []) handlers
