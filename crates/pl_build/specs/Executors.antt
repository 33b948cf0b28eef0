-- Placing: which executor runs each hop of a channel's pipeline (Netty's ChannelPipeline.addLast with an EventExecutorGroup).
use Rattle.std.specs.Prelude.{◌≡◌, ℕ, ◌+◌, ◌%◌, ◌<◌, ◌≤◌, List, [], ◌∷◌, ◌++◌, length, Bool, not, Option, None, Some, map, find, sum_by, count_by, All}
use Rattle.std.specs.List.{list_any, take_while}
use Rattle.std.specs.Option.{option_map_or}
use Rattle.std.specs.Str.{bytes_eq}
use Rattle.pl_event.specs.Meaning.{Meaning}
use Rattle.pl_build.specs.Names.{is_among}
use Rattle.pl_build.specs.Pipelines.{inbound_handlers, outbound_handlers}
use Rattle.pl_build.specs.Refusals.{executor_count}
use Rattle.pl_build.specs.declared.limits.TheConstants.{MAX_EXECUTORS}
use Rattle.pl_build.specs.declared.named_stages.NamedStage.{NamedStage}
use Rattle.pl_build.specs.declared.grouping.Group.{Group}

-- The loops and groups of a session. With them stand the loop and the executors that the next pipeline gets.
pub record GroupsView : Type 0 where
  pub loops : ℕ
  pub next_loop : ℕ
  pub groups : List Group

-- the name and the size of each group
abbrev pub sizes_of : GroupsView → List (List ℕ × ℕ)
sizes_of g = map (λ group. (group.name, group.size)) g.groups

-- The groups of a pipeline's handlers say all that its placing needs. Whether it uses the group of this name:
abbrev pub uses : List ℕ → List (Option (List ℕ)) → Bool
uses name pipeline = list_any (λ group. is_among group name) pipeline

-- the first executor of a group: before it come the loops, and the groups before it
abbrev pub first_executor : ℕ → List (List ℕ × ℕ) → List ℕ → ℕ
first_executor loops sizes name = loops + sum_by (λ group. group.1) (take_while (λ group. not (bytes_eq group.0 name)) sizes)

abbrev pub size_of : List (List ℕ × ℕ) → List ℕ → ℕ
size_of sizes name = option_map_or (λ group. group.1) (find (λ group. bytes_eq group.0 name) sizes) 1

-- The executor of a handler, by its group (ChannelPipeline.addLast). The channel comes after those with the pipelines
-- `earlier`. It is the channel's loop, or in the group number u modulo the size, where u is the number of earlier
-- pipelines that use it.
abbrev pub executor_after : ℕ → List (List ℕ × ℕ) → List (List (Option (List ℕ))) → Option (List ℕ) → ℕ
executor_after loops sizes earlier None = length earlier % loops
executor_after loops sizes earlier (Some name) =
    first_executor loops sizes name + count_by (uses name) earlier % size_of sizes name

-- The executor of each hop (ChannelPipeline.addLast). Hops are those of the inbound handlers, the tail, the outbound
-- handlers from the turn on, the head.
abbrev pub hop_executors : {S : Type 0} → (Option (List ℕ) → ℕ) → (S → Meaning) → List (NamedStage S) → List ℕ
hop_executors executor meaning handlers =
    map (λ handler. executor handler.group) (inbound_handlers meaning handlers) ++ executor None
    ∷ (map (λ handler. executor handler.group) (outbound_handlers meaning handlers) ++ executor None ∷ [])

-- the groups of a pipeline's handlers
abbrev pub groups_of : {S : Type 0} → List (NamedStage S) → List (Option (List ℕ))
groups_of handlers = map (λ handler. handler.group) handlers

-- these groups have placed the channels so far (ChannelPipeline.addLast)
pub record HasPlaced (g : GroupsView) (earlier : List (List (Option (List ℕ)))) : Type 0 where
  pub loop : g.next_loop ≡ length earlier % g.loops
  pub groups : All (λ group. group.next ≡ count_by (uses group.name) earlier % group.size) g.groups

-- There are not too many executors. Each next one is there.
pub record IsGrouping (g : GroupsView) : Type 0 where
  pub loop : g.next_loop < g.loops
  pub nexts : All (λ group. group.next < group.size) g.groups
  pub within : executor_count g.loops (sizes_of g) ≤ MAX_EXECUTORS
