-- What nodes make on their lanes, and what of it comes on a list: where a lane has stopped, nothing.
use Rattle.std.specs.Prelude.{◌≡◌, ℕ, ◌+◌, Bool, true, false, cond, List, [], ◌∷◌, ◌++◌}
use Rattle.pl_event.specs.declared.envelopes.Envelope.{Envelope}
use Rattle.pl_event.specs.declared.envelopes.Item.{Item}
use Rattle.pl_event.specs.declared.envelopes.Lane.{Lane}
use Rattle.pl_event.specs.Fitting.{goes_on}
use Rattle.pl_event.specs.Hops.{same_lane}
use Rattle.pl_event.specs.Worlds.{World}
use Rattle.pl_context.specs.Stops.{StopsView, has_stopped}
use Rattle.pl_context.specs.OutputsViews.{OutputsView}
use Rattle.pl_flow.specs.Flows.{Point, after, on, IsGood, IsNext, IsFlow, past}

-- ---- what is made

-- where each lane has come, once this envelope was made
abbrev pub made_one : (Lane → Point) → Envelope → Lane → Point
made_one from x lane = cond (same_lane lane x.lane) (after x) (from lane)

-- where each lane has come, once these were made
abbrev pub made_all : (Lane → Point) → List Envelope → Lane → Point
made_all from [] = from
made_all from (x ∷ xs) = made_all (made_one from x) xs

-- Each item in turn is next on its lane. The lane is one that the nodes write.
abbrev pub AreNext : World → (Lane → Bool) → (Lane → Point) → List Envelope → Type 0
AreNext world writes from [] = Unit {0}
AreNext world writes from (x ∷ xs) = (writes x.lane ≡ true) × IsNext world (from x.lane) x × AreNext world writes (made_one from x) xs

-- Items from this number on may stand on a lane. Nothing follows an end or a failure.
abbrev pub AreGood : World → Lane → ℕ → List Item → Type 0
AreGood world lane n [] = Unit {0}
AreGood world lane n (i ∷ is) = IsGood world (record { lane = lane; number = n; item = i }) × (goes_on i ≡ false → is ≡ []) × AreGood world lane (n + 1) is

-- ---- what of it comes on a list

-- none of these envelopes' lanes has stopped
abbrev pub NoneStopped : StopsView → List Envelope → Type 0
NoneStopped s [] = Unit {0}
NoneStopped s (x ∷ xs) = (has_stopped s x.lane ≡ false) × NoneStopped s xs

-- A lane was made from one point to another, and these items of it were put on a list. Where it had stopped there, none
-- were. Else they follow the first point; and they reach the other one, unless the lane has stopped now: its last item is
-- then one that stands in for what found no memory.
pub record LaneGrows (world : World) (writes stopped stopped' : Bool) (from : Point) (added : List Envelope) (to : Point) : Type 0 where
  pub idle : writes ≡ false → added ≡ []
  pub discards : stopped ≡ true → (added ≡ []) × (stopped' ≡ true)
  pub flow : stopped ≡ false → IsFlow world from added
  pub up_to : stopped' ≡ false → past from added ≡ to

-- Nodes have put this on a list (ChannelHandlerContext, make_law). They write some lanes; each had come to a point,
-- and has come to another.
pub record Makes (world : World) (writes : Lane → Bool) (from to : Lane → Point) (before after : OutputsView) : Type 0 where
  pub added : List Envelope
  pub items : after.items ≡ before.items ++ added
  pub lanes : (l : Lane) → LaneGrows world (writes l) (has_stopped before.stopped l) (has_stopped after.stopped l) (from l) (on l added) (to l)
