-- What is built of the members of a session (docs/FORMATS.md, "Session"): the groups first, and then channel by channel
-- its edits in order, its marks, and its pipeline, placed after those of the earlier channels. The first refusal is the
-- answer.
use Rattle.std.specs.Prelude.{◌≡◌, ◌≢◌, ℕ, ◌+◌, List, [], ◌∷◌, ◌++◌, map, insert, is_some, if◌then◌else◌, Option, Result, Ok, Err, Some}
use Rattle.std.specs.Option.{option_map_or}
use Rattle.pl_event.specs.Meaning.{Meaning}
use Rattle.pl_event.specs.Paths.{inbound_chain, outbound_chain}
use Rattle.pl_build.specs.declared.named_stages.NamedStage.{NamedStage}
use Rattle.pl_build.specs.declared.faults.BuildFault.{BuildFault}
use Rattle.pl_build.specs.declared.faults.BuildFault.TheVariants.{NoSuchName, Memory}
use Rattle.pl_build.specs.Pipelines.{handler_of, index_of, without, meanings}
use Rattle.pl_build.specs.Refusals.{unless, naming_fault, beside_fault, marks_answer, building_fault, grouping_fault, executor_count}
use Rattle.pl_build.specs.Executors.{GroupsView, HasPlaced, sizes_of, executor_after, hop_executors, groups_of}
use Rattle.pl_world.specs.Plans.{Plan, ChannelPlan}
use Rattle.pl_text.specs.declared.session_text.outline.Addition.{Addition}
use Rattle.pl_text.specs.declared.session_text.outline.Edit.{Edit}
use Rattle.pl_text.specs.declared.session_text.outline.Edit.TheVariants.{First, Last, Before, After, Remove}
use Rattle.pl_text.specs.declared.session_text.outline.ChannelOutline.{ChannelOutline}
use Rattle.pl_text.specs.declared.session_text.outline.GroupOutline.{GroupOutline}
use Rattle.pl_text.specs.declared.session_text.outline.Outline.{Outline}
use Rattle.pl_text.specs.SessionReading.{◌>>=◌}
use Rattle.pl_text.specs.SessionHandlers.{meaning_of}

-- What a call of the builder answered is what building means, unless memory ran out.
abbrev pub Builds : {A : Type 0} → Result A BuildFault → Result A BuildFault → Type 0
Builds (Ok x) building = building ≡ Ok x
Builds (Err e) building = e ≢ Memory → building ≡ Err e

-- handlers with what their stages mean
abbrev pub meant : {S : Type 0} → (S → Meaning) → List (NamedStage S) → List (NamedStage Meaning)
meant meaning handlers = map (λ handler. handler_of handler.name handler.group (meaning handler.stage)) handlers

-- ---- edits

-- an edit that is refused for this reason, or else makes this list
abbrev pub made_unless : {A : Type 0} → Option BuildFault → A → Result A BuildFault
made_unless fault made = unless fault >>= λ _. Ok made

-- the handler that an edit adds
abbrev pub added : Addition → NamedStage Meaning
added a = handler_of a.name a.group (meaning_of a.handler)

-- a handler just before the one of a name, and just after it
abbrev pub put_before : List ℕ → NamedStage Meaning → List (NamedStage Meaning) → List (NamedStage Meaning)
put_before at handler handlers = option_map_or (λ index. insert handlers index handler) (index_of at handlers) handlers

abbrev pub put_after : List ℕ → NamedStage Meaning → List (NamedStage Meaning) → List (NamedStage Meaning)
put_after at handler handlers = option_map_or (λ index. insert handlers (index + 1) handler) (index_of at handlers) handlers

-- the handlers of a pipeline after an edit
unfoldable pub edited : List (NamedStage Meaning) → Edit → Result (List (NamedStage Meaning)) BuildFault
edited handlers (First a) = made_unless (naming_fault a.name handlers) (added a ∷ handlers)
edited handlers (Last a) = made_unless (naming_fault a.name handlers) (handlers ++ added a ∷ [])
edited handlers (Before at a) = made_unless (beside_fault at a.name handlers) (put_before at (added a) handlers)
edited handlers (After at a) = made_unless (beside_fault at a.name handlers) (put_after at (added a) handlers)
edited handlers (Remove name) = if is_some (index_of name handlers) then Ok (without name handlers) else Err NoSuchName

abbrev pub all_edited : List (NamedStage Meaning) → List Edit → Result (List (NamedStage Meaning)) BuildFault
all_edited handlers [] = Ok handlers
all_edited handlers (edit ∷ edits) = edited handlers edit >>= λ next. all_edited next edits

-- ---- channels

-- the handlers of a channel's pipeline, where the groups have these names and sizes
unfoldable pub pipeline_built : List (List ℕ × ℕ) → ChannelOutline → Result (List (NamedStage Meaning)) BuildFault
pipeline_built sizes channel = do
  handlers ← all_edited [] channel.edits
  _ ← marks_answer channel.low channel.high
  _ ← unless (building_fault (λ m. m) sizes handlers)
  Ok handlers

-- the plan of a channel with these handlers, after channels whose handlers have the groups `earlier`
abbrev pub channel_built : ℕ → List (List ℕ × ℕ) → List (List (Option (List ℕ))) → ChannelOutline → List (NamedStage Meaning) → ChannelPlan
channel_built loops sizes earlier channel handlers = record {
  inbound = inbound_chain (meanings (λ m. m) handlers);
  outbound = outbound_chain (meanings (λ m. m) handlers);
  executors = hop_executors (executor_after loops sizes earlier) (λ m. m) handlers;
  low = channel.low;
  high = channel.high;
  window = Some channel.window;
  fail_at = channel.fail_at;
  bursts = channel.bursts;
  abort_after = channel.abort_after;
}

-- the channels in order, each with the groups of the earlier ones
abbrev pub channels_built : ℕ → List (List ℕ × ℕ) → List (List (Option (List ℕ))) → List ChannelOutline → Result (List ChannelPlan) BuildFault
channels_built loops sizes earlier [] = Ok []
channels_built loops sizes earlier (channel ∷ channels) = do
  handlers ← pipeline_built sizes channel
  plans ← channels_built loops sizes (earlier ++ groups_of handlers ∷ []) channels
  Ok (channel_built loops sizes earlier channel handlers ∷ plans)

-- ---- the session

abbrev pub group_sizes : List GroupOutline → List (List ℕ × ℕ)
group_sizes groups = map (λ group. (group.name, group.size)) groups

unfoldable pub session_built : Outline → Result Plan BuildFault
session_built outline = do
  _ ← unless (grouping_fault outline.loops (group_sizes outline.groups))
  channels ← channels_built outline.loops (group_sizes outline.groups) [] outline.channels
  Ok (record { capacity = outline.capacity; executors = executor_count outline.loops (group_sizes outline.groups); channels = channels })

-- ---- what the groups keep

-- A channel was built as this plan, by groups that then count it among the channels they have placed.
pub record IsChannelBuilt (before after : GroupsView) (channel : ChannelOutline) (plan : ChannelPlan) : Type 0 where
  pub handlers : List (NamedStage Meaning)
  pub built : pipeline_built (sizes_of before) channel ≡ Ok handlers
  pub placed : (earlier : List (List (Option (List ℕ)))) → HasPlaced before earlier → plan ≡ channel_built before.loops (sizes_of before) earlier channel handlers
  pub counted : (earlier : List (List (Option (List ℕ)))) → HasPlaced before earlier → HasPlaced after (earlier ++ groups_of handlers ∷ [])
