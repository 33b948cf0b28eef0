-- Lists on which envelopes wait, with reserved places for failures.
use Rattle.std.specs.Prelude.{◌≡◌, ℕ, ◌+◌, ◌-◌, ◌<◌, ◌≤◌, ◌↔◌, List, [], ◌∷◌, ◌++◌, length, true, false}
use Rattle.pl_event.specs.declared.envelopes.Kind.TheVariants.{Data, Flags}
use Rattle.pl_event.specs.declared.envelopes.Lane.{Lane}
use Rattle.pl_event.specs.declared.envelopes.Item.{Item}
use Rattle.pl_event.specs.declared.envelopes.Item.TheVariants as item
use Rattle.pl_event.specs.declared.envelopes.Envelope.{Envelope}
use Rattle.pl_event.specs.declared.outcomes.Cause.TheVariants.{Memory}
use Rattle.pl_context.specs.declared.added.Added.{Added}
use Rattle.pl_context.specs.declared.added.Added.TheVariants.{Last, Refused, Discarded}
use Rattle.pl_context.specs.Stops.{StopsView, has_stopped, with_stop}

-- A list of envelopes, the front first. There is room for `room` more without a growth, beside the reserved places.
pub record OutputsView : Type 0 where
  pub items : List Envelope
  pub stopped : StopsView
  pub room : ℕ

-- A failure that takes the place of an item. It is out of memory, or the failure that the item is.
abbrev pub failure_of : Item → Item
failure_of (item.Event event) = item.Fail Memory
failure_of item.End = item.Fail Memory
failure_of (item.Fail cause) = item.Fail cause
failure_of (item.Flag value) = item.Fail Memory

-- What takes the place of an envelope for which no memory is found: on a data lane a failure with its number, on a flags
-- lane nothing.
abbrev pub stand_in : Envelope → List Envelope
stand_in e = elim e.lane.kind [ Data ↦ record e { item = failure_of e.item } ∷ [] | Flags ↦ [] ]

-- what one envelope adds to the list, and what it does to its lane
abbrev pub added_items : Added → Envelope → List Envelope
added_items Last e = e ∷ []
added_items Refused e = stand_in e
added_items Discarded e = []

abbrev pub stopped_after : Added → StopsView → Lane → StopsView
stopped_after Last s lane = s
stopped_after Refused s lane = with_stop s lane
stopped_after Discarded s lane = s

-- An envelope is put on a list, and discarded exactly where its lane has stopped. Else it is last wherever there is
-- room.
pub record Puts (before : OutputsView) (e : Envelope) (answer : Added) (after : OutputsView) : Type 0 where
  pub items : after.items ≡ before.items ++ added_items answer e
  pub stopped : after.stopped ≡ stopped_after answer before.stopped e.lane
  pub discarded : (answer ≡ Discarded) ↔ (has_stopped before.stopped e.lane ≡ true)
  pub last : has_stopped before.stopped e.lane ≡ false → 0 < before.room → answer ≡ Last
  pub room : before.room ≤ after.room + length (added_items answer e)

-- envelopes are put on a list one after another
abbrev pub PutsAll : OutputsView → List Envelope → OutputsView → Type 0
PutsAll before [] after = (after.items ≡ before.items) × (after.stopped ≡ before.stopped) × (before.room ≤ after.room)
PutsAll before (e ∷ es) after = (answer : Added) × (mid : OutputsView) × Puts before e answer mid × PutsAll mid es after

-- These envelopes came last, and no lane has stopped.
pub record Appends (before : OutputsView) (es : List Envelope) (after : OutputsView) : Type 0 where
  pub items : after.items ≡ before.items ++ es
  pub stopped : after.stopped ≡ before.stopped
  pub room : before.room ≤ after.room + length es

-- the places of data lanes not stopped are free
pub record HasReserve (s : StopsView) (len capacity : ℕ) : Type 0 where
  pub few : length s.lanes ≤ s.places
  pub free : len + (s.places - length s.lanes) ≤ capacity
