-- What the calls of a part ask for, and what they do.
use Rattle.std.specs.Prelude.{◌≡◌, ℕ, ◌+◌, ◌≤◌, ◌<◌, ◌^◌, Bool, true, false, List, length, cond}
use Rattle.pl_event.specs.declared.events.Event.{Event}
use Rattle.pl_event.specs.declared.envelopes.Envelope.{Envelope}
use Rattle.pl_event.specs.declared.envelopes.Lane.{Lane}
use Rattle.pl_event.specs.Hops.{same_lane}
use Rattle.pl_event.specs.Meaning.{Meaning}
use Rattle.pl_event.specs.Worlds.{World}
use Rattle.pl_context.specs.declared.standing.Took.{Took}
use Rattle.pl_context.specs.OutputsViews.{OutputsView}
use Rattle.pl_context.specs.Stops.{HasPlaces}
use Rattle.pl_flow.specs.Flows.{IsGood}
use Rattle.pl_flow.specs.LanesViews.{KeepsPlaces}
use Rattle.pl_flow.specs.Makes.{Makes}
use Rattle.pl_head.specs.HeadStand.{HeadView, gone_of}
use Rattle.pl_head.specs.Transports.{TransportState}
use Rattle.pl_part.specs.HeadHolds.{HeadHolds, head_writes, head_came, head_lanes}
use Rattle.pl_part.specs.Parts.{ChannelPartView, PartHolds, PartTakes, SamePart, has_entered, part_taken, part_lanes, part_writes, writes_at, part_came}
use Rattle.pl_part.specs.Counts.{head_done, part_done}

-- An envelope is next for a part's nodes. It is the next of its lane, which enters one of them, and there are places
-- for what they write.
pub record IsNextFor {S T : Type 0} (world : World) (meaning : S → Meaning) (stands_after : S → List Event → Type 0) (state : T → TransportState) (p : ChannelPartView S T) (e : Envelope) (before : OutputsView) : Type 0 where
  pub holds : PartHolds world meaning stands_after state p
  pub entered : has_entered p e.lane ≡ true
  pub number : e.number ≡ part_taken p e.lane
  pub good : IsGood world e
  pub places : HasPlaces before.stopped (part_lanes p)

-- A head has put something, and has taken and forgotten nothing. In each world where it held it holds again, and what it has put is the next
-- of its lanes.
pub record HeadGiven {T : Type 0} (state : T → TransportState) (h : HeadView T) (before : OutputsView) (h' : HeadView T) (after : OutputsView) : Type 0 where
  pub same_node : (h'.channel ≡ h.channel) × (h'.hop ≡ h.hop) × (gone_of h' ≡ gone_of h)
  pub taken : h'.taken ≡ h.taken
  pub holds : (world : World) → HeadHolds state world h → HeadHolds state world h'
  pub made : (world : World) → HeadHolds state world h → Makes world (head_writes h) (head_came h) (head_came h') before after
  pub placed : KeepsPlaces (head_lanes h) before.stopped after.stopped
  -- what came on the list was made
  pub more : head_done h + length after.items ≤ head_done h' + length before.items

module _ {S T : Type 0} (meaning : S → Meaning) where
  -- The node at a hop has put something on a work list: they are the same nodes, which write the same lanes; no other lane has
  -- come further; and the places stay. The list is as long or longer, and little was done.
  pub record NodePuts (p : ChannelPartView S T) (hop : ℕ) (before : OutputsView) (p' : ChannelPartView S T) (after : OutputsView) : Type 0 where
    pub same : SamePart p p'
    pub writes : (l : Lane) → part_writes meaning p' l ≡ part_writes meaning p l
    pub others : (l : Lane) → writes_at meaning p hop l ≡ false → part_came meaning p' l ≡ part_came meaning p l
    pub placed : KeepsPlaces (part_lanes p) before.stopped after.stopped
    pub longer : length before.items ≤ length after.items
    pub few : part_done p' < 2 ^ 50

  module _ (stands_after : S → List Event → Type 0) (state : T → TransportState) where
    -- A node has taken an envelope. In each world where the nodes held, and where the envelope may stand, they hold again, and
    -- what that node has put is the next of its lanes.
    pub record Taken (is_spent : S → Bool) (p : ChannelPartView S T) (e : Envelope) (before : OutputsView) (answer : Took) (p' : ChannelPartView S T) (after : OutputsView) : Type 0 where
      pub takes : PartTakes meaning stands_after is_spent state p e before answer p' after
      pub taken : (l : Lane) → part_taken p' l ≡ cond (same_lane l e.lane) (e.number + 1) (part_taken p l)
      pub puts : NodePuts p e.lane.hop before p' after
      pub holds : (world : World) → PartHolds world meaning stands_after state p → IsGood world e → PartHolds world meaning stands_after state p'
      pub made : (world : World) → PartHolds world meaning stands_after state p → IsGood world e
          → Makes world (writes_at meaning p e.lane.hop) (part_came meaning p) (part_came meaning p') before after
      -- what came on the list was made, and an item more was taken
      pub more : part_done p + length after.items + 1 ≤ part_done p' + length before.items

    -- The node at a hop failed by a refusal. What it writes is refused, and none has taken anything. It is so in each
    -- world where lanes are refused.
    pub record PartRefused (p : ChannelPartView S T) (hop : ℕ) (before : OutputsView) (p' : ChannelPartView S T) (after : OutputsView) : Type 0 where
      pub taken : (l : Lane) → part_taken p' l ≡ part_taken p l
      pub puts : NodePuts p hop before p' after
      pub holds : (world : World) → world.refuses ≡ true → PartHolds world meaning stands_after state p → PartHolds world meaning stands_after state p'
      pub made : (world : World) → world.refuses ≡ true → PartHolds world meaning stands_after state p
          → Makes world (writes_at meaning p hop) (part_came meaning p) (part_came meaning p') before after
      -- what came on the list was made
      pub more : part_done p + length after.items ≤ part_done p' + length before.items

    -- The node at a hop has put something. None has taken anything.
    pub record Given (p : ChannelPartView S T) (hop : ℕ) (before : OutputsView) (p' : ChannelPartView S T) (after : OutputsView) : Type 0 where
      pub taken : (l : Lane) → part_taken p' l ≡ part_taken p l
      pub puts : NodePuts p hop before p' after
      pub holds : (world : World) → PartHolds world meaning stands_after state p → PartHolds world meaning stands_after state p'
      pub made : (world : World) → PartHolds world meaning stands_after state p → Makes world (writes_at meaning p hop) (part_came meaning p) (part_came meaning p') before after
      -- what came on the list was made
      pub more : part_done p + length after.items ≤ part_done p' + length before.items
