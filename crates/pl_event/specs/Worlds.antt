-- Worlds: what each data lane carries in all, which causes may fail a lane, and which envelopes fit that. A world exists in
-- contracts alone.
use Rattle.std.specs.Prelude.{◌≡◌, Bool, true, false, not, cond, List, [], ◌∷◌, Option, Some, None}
use Rattle.pl_event.specs.declared.events.Event.{Event}
use Rattle.pl_event.specs.declared.envelopes.Envelope.{Envelope}
use Rattle.pl_event.specs.declared.envelopes.Item.{Item}
use Rattle.pl_event.specs.declared.envelopes.Item.TheVariants as item
use Rattle.pl_event.specs.declared.envelopes.Kind.{Kind}
use Rattle.pl_event.specs.declared.envelopes.Kind.TheVariants.{Data, Flags}
use Rattle.pl_event.specs.declared.envelopes.Lane.{Lane}
use Rattle.pl_event.specs.declared.outcomes.Cause.{Cause}
use Rattle.pl_event.specs.declared.outcomes.Cause.TheVariants as cause
use Rattle.pl_event.specs.Fitting.{Fits, FitsAsFlag, goes_on}
use Rattle.pl_event.specs.Hops.{same_lane}

-- The named world: what each data lane carries in all, in contracts alone. The first entry of a lane counts. And
-- whether executors close while others still send to them, so that a lane may fail since it was refused.
pub record World : Type 0 where
  pub contents : List (Lane × List Event)
  pub refuses : Bool

-- a world with these lanes, which may fail for any cause
abbrev pub carrying : List (Lane × List Event) → World
carrying contents = record { contents = contents; refuses = true }

abbrev pub content_in : List (Lane × List Event) → Lane → Option (List Event)
content_in [] lane = None
content_in (entry ∷ contents) lane = cond (same_lane lane entry.0) (Some entry.1) (content_in contents lane)

-- all events of a data lane that the world has
abbrev pub content_of : World → Lane → Option (List Event)
content_of world lane = content_in world.contents lane

-- a lane may fail for this cause
abbrev pub may_fail : World → Cause → Bool
may_fail world cause.Memory = true
may_fail world cause.Refused = world.refuses
may_fail world cause.Aborted = true
may_fail world cause.Transport = true

-- the item is no failure for a cause that does not come in this world
abbrev pub MayCome : World → Item → Type 0
MayCome world (item.Event event) = Unit {0}
MayCome world item.End = Unit {0}
MayCome world (item.Fail cause) = may_fail world cause ≡ true
MayCome world (item.Flag value) = Unit {0}

abbrev pub FitsAsKind : World → Kind → Envelope → Type 0
FitsAsKind world Data x = (events : List Event) × (content_of world x.lane ≡ Some events) × Fits events x.number x.item × MayCome world x.item
FitsAsKind world Flags x = FitsAsFlag x.number x.item

-- An item may stand at its number on its lane. On a data lane it does by the content that the world has for it.
unfoldable pub FitsWorld : World → Envelope → Type 0
FitsWorld world x = FitsAsKind world x.lane.kind x

-- nothing follows this item on its lane
abbrev pub closes : Item → Bool
closes item = not (goes_on item)
