-- Parts whose nodes have taken nothing, in a world that knows their lanes.
use Rattle.std.specs.Prelude.{◌≡◌, ℕ, ◌+◌, ◌<◌, true, false, List, [], ◌∷◌, ◌++◌, All, get_or, length, slice_get, Option, Some, None}
use Rattle.pl_event.specs.declared.events.Event.{Event}
use Rattle.pl_event.specs.declared.envelopes.Kind.{Kind}
use Rattle.pl_event.specs.declared.envelopes.Lane.{Lane}
use Rattle.pl_event.specs.Hops.{data_lane}
use Rattle.pl_event.specs.Meaning.{Meaning}
use Rattle.pl_event.specs.Paths.{is_turn}
use Rattle.pl_event.specs.Worlds.{World, content_of}
use Rattle.pl_context.specs.ContextViews.{ContextView, IsHop, kind_taken, new_context}
use Rattle.pl_flow.specs.Flows.{point}
use Rattle.pl_part.specs.ContextHolds.{ContextHolds, IsPlanned, context_writes, context_came}
use Rattle.pl_part.specs.Paths.{IsAt}
use Rattle.pl_event.specs.declared.limits.TheConstants.{MAX_ITEMS}

module _ {S : Type 0} (world : World) (meaning : S → Meaning) (channel k turn : ℕ) where
  -- A stage may stand at a hop, and the world knows its lanes there.
  pub record IsPlannedAt (hop : ℕ) (stage : S) : Type 0 where
    pub at : IsHop (meaning stage).direction hop k
    pub turned : is_turn (meaning stage).direction ≡ true → hop ≡ turn
    pub events : List Event
    pub plan : IsPlanned world (meaning stage) events channel hop k

  -- These may, at consecutive hops.
  abbrev pub ArePlanned : ℕ → List S → Type 0
  ArePlanned first stages = (i : ℕ) (stage : S) → slice_get stages i ≡ Some stage → IsPlannedAt (first + i) stage

  module _ (stands_after : S → List Event → Type 0) where
    -- A context holds at its hop, and has taken nothing and written nothing.
    pub record IsNewAt (hop : ℕ) (c : ContextView S) : Type 0 where
      pub holds : ContextHolds world meaning stands_after c
      pub at : IsAt meaning channel hop k turn c
      pub none_taken : (kind : Kind) → kind_taken c kind ≡ 0
      pub starts : (l : Lane) → context_writes (meaning c.stage).direction c l ≡ true → context_came (meaning c.stage).direction c l ≡ point 0 false

    -- the contexts of these slots are new, by hop
    abbrev pub AreNewSlots : List (Option (ContextView S)) → Type 0
    AreNewSlots slots = (hop : ℕ) (c : ContextView S) → get_or slots hop None ≡ Some c → IsNewAt hop c

-- The world knows the lanes of a channel's handlers. These may stand at their hops, with the tail between them.
pub record ArePlannedWith {S : Type 0} (world : World) (meaning : S → Meaning) (channel turn : ℕ) (inbound outbound : List S) : Type 0 where
  pub planned_inbound : ArePlanned world meaning channel (length inbound) turn 0 inbound
  pub planned_tail : (events : List Event) × (content_of world (data_lane channel (length inbound)) ≡ Some events) × (length events + 1 < MAX_ITEMS)
  pub planned_outbound : ArePlanned world meaning channel (length inbound) turn (length inbound + 1) outbound

-- The stages of a new channel. They have had no step, and some world knows the lanes of their hops.
pub record AreNewStages {S : Type 0} (meaning : S → Meaning) (stands_after : S → List Event → Type 0) (channel turn : ℕ) (inbound outbound : List S) : Type 0 where
  pub new_inbound : All (λ stage. stands_after stage []) inbound
  pub new_outbound : All (λ stage. stands_after stage []) outbound
  pub planned : (world : World) × ArePlannedWith world meaning channel turn inbound outbound

module _ {S : Type 0} (meaning : S → Meaning) (channel k : ℕ) where
  -- the slots of these stages at consecutive hops, of which the first is this: none has taken or made anything
  abbrev pub new_slots : ℕ → List S → List (Option (ContextView S))
  new_slots hop [] = []
  new_slots hop (stage ∷ stages) = Some (new_context (meaning stage).direction channel hop k stage) ∷ new_slots (hop + 1) stages

-- All slots of a new channel. They are those of its inbound stages, the tail's, which has no context, and those of
-- its outbound stages.
abbrev pub whole_slots : {S : Type 0} → (S → Meaning) → ℕ → List S → List S → List (Option (ContextView S))
whole_slots meaning channel inbound outbound =
    new_slots meaning channel (length inbound) 0 inbound ++ None ∷ new_slots meaning channel (length inbound) (length inbound + 1) outbound
