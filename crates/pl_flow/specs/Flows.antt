-- What goes along a lane: how far the lane has come at a place, and which items follow there.
use Rattle.std.specs.Prelude.{◌≡◌, ℕ, ◌+◌, ◌<◌, ◌^◌, Bool, true, false, List, [], ◌∷◌, filter}
use Rattle.pl_event.specs.declared.envelopes.Envelope.{Envelope}
use Rattle.pl_event.specs.declared.envelopes.Lane.{Lane}
use Rattle.pl_event.specs.Hops.{is_on}
use Rattle.pl_event.specs.Worlds.{World, FitsWorld, closes}

-- How far a lane has come at a place. It is the number of its next item there, and whether its end or a failure has
-- passed, behind which nothing comes.
pub record Point : Type 0 where
  pub next : ℕ
  pub over : Bool

-- the point of this next number, over or not
abbrev pub point : ℕ → Bool → Point
point n over = record { next = n; over = over }

-- nothing of the lane ever comes here
abbrev pub nowhere : Point
nowhere = point 0 true

-- a lane at a place, once this item has passed
abbrev pub after : Envelope → Point
after x = point (x.number + 1) (closes x.item)

-- the items of one lane, in their order
abbrev pub on : Lane → List Envelope → List Envelope
on lane items = filter (is_on lane) items

-- An item that may stand at its number. It fits the world, and its number is small.
pub record IsGood (world : World) (x : Envelope) : Type 0 where
  pub fits : FitsWorld world x
  pub small : x.number < 2 ^ 32

-- An item that comes next on its lane (item_law). The lane has come so far.
pub record IsNext (world : World) (p : Point) (x : Envelope) : Type 0 where
  pub over : p.over ≡ false
  pub number : x.number ≡ p.next
  pub good : IsGood world x

-- Items of one lane that follow this point (flow_law). Each is the next one behind those before it.
abbrev pub IsFlow : World → Point → List Envelope → Type 0
IsFlow world p [] = Unit {0}
IsFlow world p (x ∷ xs) = IsNext world p x × IsFlow world (after x) xs

-- the point behind these items
abbrev pub past : Point → List Envelope → Point
past p [] = p
past p (x ∷ xs) = past (after x) xs
