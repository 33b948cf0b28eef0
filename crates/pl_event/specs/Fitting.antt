-- Fitting item: which item may stand at which number of a lane.
use Rattle.std.specs.Prelude.{◌≡◌, ℕ, ◌+◌, ◌%◌, ◌≤◌, List, [], ◌∷◌, length, Some, Bool, true, false, ◌==◌, slice_get}
use Rattle.pl_event.specs.declared.events.Event.{Event}
use Rattle.pl_event.specs.declared.envelopes.Item.{Item}
use Rattle.pl_event.specs.declared.envelopes.Item.TheVariants as item

-- Item n of a data lane of this content: event n, the end after the last event, or a failure no later.
abbrev pub Fits : List Event → ℕ → Item → Type 0
Fits content n (item.Event event) = slice_get content n ≡ Some event
Fits content n item.End = n ≡ length content
Fits content n (item.Fail cause) = n ≤ length content
Fits content n (item.Flag value) = ⊥

-- Item n of a flags lane: the first says not writable, and they alternate.
abbrev pub FitsAsFlag : ℕ → Item → Type 0
FitsAsFlag n (item.Event event) = ⊥
FitsAsFlag n item.End = ⊥
FitsAsFlag n (item.Fail cause) = ⊥
FitsAsFlag n (item.Flag value) = value ≡ (n % 2 == 1)

-- a lane goes on after this item
abbrev pub goes_on : Item → Bool
goes_on (item.Event event) = true
goes_on item.End = false
goes_on (item.Fail cause) = false
goes_on (item.Flag value) = true

-- Items, numbered from n on, fit a data lane's content (ChannelInboundHandler, fitting_law). Each does, and nothing
-- follows an end or a failure.
abbrev pub FitFrom : List Event → ℕ → List Item → Type 0
FitFrom content n [] = Unit {0}
FitFrom content n (i ∷ is) = Fits content n i × (goes_on i ≡ false → is ≡ []) × FitFrom content (n + 1) is

-- items, numbered from n on, fit on a flags lane
abbrev pub FitFromAsFlags : ℕ → List Item → Type 0
FitFromAsFlags n [] = Unit {0}
FitFromAsFlags n (i ∷ is) = FitsAsFlag n i × FitFromAsFlags (n + 1) is

-- the events among items
abbrev pub events_of : List Item → List Event
events_of [] = []
events_of (item.Event event ∷ is) = event ∷ events_of is
events_of (item.End ∷ is) = events_of is
events_of (item.Fail cause ∷ is) = events_of is
events_of (item.Flag value ∷ is) = events_of is

-- the flags among items
abbrev pub flags_of : List Item → List Bool
flags_of [] = []
flags_of (item.Event event ∷ is) = flags_of is
flags_of (item.End ∷ is) = flags_of is
flags_of (item.Fail cause ∷ is) = flags_of is
flags_of (item.Flag value ∷ is) = value ∷ flags_of is
