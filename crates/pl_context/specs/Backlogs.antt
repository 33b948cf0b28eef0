-- A backlog: envelopes that wait for a queue of another executor, each with a token.
use Rattle.std.specs.Prelude.{◌≡◌, ◌↔◌, ℕ, ◌+◌, ◌<◌, ◌≤◌, List, ◌++◌, length, map, true, false, Option, Some, None}
use Rattle.pl_event.specs.declared.envelopes.Kind.{Kind}
use Rattle.pl_event.specs.declared.envelopes.Kind.TheVariants.{Data, Flags}
use Rattle.pl_event.specs.declared.envelopes.Envelope.{Envelope}
use Rattle.pl_context.specs.declared.added.Added.{Added}
use Rattle.pl_context.specs.declared.added.Added.TheVariants.{Last, Refused, Discarded}
use Rattle.pl_context.specs.Stops.{StopsView, has_stopped}
use Rattle.pl_context.specs.OutputsViews.{added_items, stopped_after}

-- Envelopes with their tokens, the oldest first (EventExecutor). There is room for `room` more without a growth,
-- beside the reserved places.
pub record BacklogView (A : Type 0) : Type 0 where
  pub items : List (Envelope × A)
  pub stopped : StopsView
  pub room : ℕ

-- the token comes back where nothing was added
abbrev pub handed_back : {A : Type 0} → Added → Kind → A → Option A
handed_back Last kind token = None
handed_back Refused Data token = None
handed_back Refused Flags token = Some token
handed_back Discarded kind token = Some token

-- An envelope is added with its token. The rule is that of a list of envelopes.
pub record AddsToken {A : Type 0} (before : BacklogView A) (e : Envelope) (token : A) (result : Option A) (after : BacklogView A) : Type 0 where
  pub answer : Added
  pub items : after.items ≡ before.items ++ map (λ x. (x, token)) (added_items answer e)
  pub stopped : after.stopped ≡ stopped_after answer before.stopped e.lane
  pub discarded : (answer ≡ Discarded) ↔ (has_stopped before.stopped e.lane ≡ true)
  pub last : has_stopped before.stopped e.lane ≡ false → 0 < before.room → answer ≡ Last
  pub room : before.room ≤ after.room + length (added_items answer e)
  pub back : result ≡ handed_back answer e.lane.kind token
