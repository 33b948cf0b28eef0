-- The nodes of an executor whose heads tell the words of their channels.
use Rattle.std.specs.Prelude.{◌≡◌, ◌≢◌, ℕ, ◌-◌, ◌<◌, ◌≤◌, List, [], length, replicate, slice_get, slice_set, Option, Some, None, true}
use Rattle.std.specs.Option.{option_map_or}
use Rattle.pl_channel.specs.Lanes.{world_of}
use Rattle.pl_event.specs.declared.events.Event.{Event}
use Rattle.pl_event.specs.declared.outcomes.Outcome.{Outcome}
use Rattle.pl_event.specs.Meaning.{Meaning}
use Rattle.pl_event.specs.Worlds.{World}
use Rattle.pl_head.specs.Buffers.{untold}
use Rattle.pl_head.specs.HeadStand.{HeadView}
use Rattle.pl_head.specs.Transports.{TransportState}
use Rattle.pl_part.specs.Parts.{ChannelPartView, PartHolds}
use Rattle.pl_part.specs.Told.{IsTold, part_untold}
use Rattle.pl_words.specs.declared.watermark.TheConstants.{MAX_SETS}
use Rattle.pl_world.specs.Plans.{ChannelPlan, Plan}
use Rattle.pl_exec.specs.declared.nodes.ExecutorNodes.{ExecutorNodes}
use Rattle.pl_exec.specs.ChannelRows.{by_channel}
use Rattle.pl_exec.specs.ExecutorNodes.{AreInOrder, NodesStand, channel_parts, heads_of}
use Rattle.pl_exec.specs.SessionWords.{ChannelNames, SeatsView, AreSeatsOf, TriesEach}

-- the two marks of a channel
abbrev pub plan_marks : ChannelPlan → ℕ × ℕ
plan_marks p = (p.low, p.high)

-- Seats on the words of a channel, with the channel's marks.
pub record IsSeated (words : List ChannelNames) (plan : Plan) (c : ℕ) (s : SeatsView) : Type 0 where
  pub own : AreSeatsOf words c s
  pub marks : (p : ChannelPlan) → slice_get plan.channels c ≡ Some p → (s.mark.low ≡ p.low) × (s.mark.high ≡ p.high)
  pub ordered : s.mark.low ≤ s.mark.high

-- by channel the seats on its words, where its head is on this executor and there are some
abbrev pub channel_seats : {S T : Type 0} → Plan → ExecutorNodes S T → List (Option SeatsView)
channel_seats plan n = by_channel (λ none slot. slot) n.here.items n.seats.items (replicate (length plan.channels) None)

-- By channel the seats on its words, or none.
pub record AreSeated (words : List ChannelNames) (plan : Plan) (seats : List (Option SeatsView)) : Type 0 where
  pub count : length seats ≡ length plan.channels
  pub each : (c : ℕ) (s : SeatsView) → slice_get seats c ≡ Some (Some s) → IsSeated words plan c s

-- The head of a channel has told some of its settled writes, or none. All else is as it was.
pub record IsToldAt {S T : Type 0} (ps : List (ChannelPartView S T)) (c : ℕ) (ps' : List (ChannelPartView S T)) : Type 0 where
  pub before : ChannelPartView S T
  pub after : ChannelPartView S T
  pub was : slice_get ps c ≡ Some before
  pub becomes : ps' ≡ slice_set ps c after
  pub told : IsTold before after

-- The head of a channel of an executor's nodes has. All else is as it was, but the seats.
pub record AreToldAt {S T : Type 0} (plan : Plan) (n : ExecutorNodes S T) (c : ℕ) (n' : ExecutorNodes S T) : Type 0 where
  pub same : n' ≡ record n { parts = n'.parts; seats = n'.seats }
  pub in_order : AreInOrder (length plan.channels) n'
  pub own : heads_of n'.parts.items ≡ heads_of n.parts.items
  pub parts : IsToldAt (channel_parts plan n) c (channel_parts plan n')

-- Seats on the words of a channel, with the marks of its head, where that is one of the nodes of this part.
pub record CanTell {S T : Type 0} (meaning : S → Meaning) (stands_after : S → List Event → Type 0) (state : T → TransportState) (words : List ChannelNames) (c : ℕ) (s : SeatsView) (p : ChannelPartView S T) : Type 0 where
  pub own : AreSeatsOf words c s
  pub holds : (world : World) × PartHolds world meaning stands_after state p
  pub marks : (h : HeadView T) → p.head ≡ Some h → (s.mark.low ≡ h.buffer.low) × (s.mark.high ≡ h.buffer.high)
  pub ordered : s.mark.low ≤ s.mark.high

-- the outcomes of the writes of a part's head
abbrev pub part_outcomes : {S T : Type 0} → ChannelPartView S T → List (Option Outcome)
part_outcomes p = option_map_or (λ (h : HeadView _). h.buffer.outcomes) p.head []

-- The mark says what is pending at a head and whether its channel is unwritable, as long as it may be set once more; and the
-- head has told of each of its settled writes.
pub record Tells {T : Type 0} (s : SeatsView) (h : HeadView T) : Type 0 where
  pub pending : s.mark.sets < MAX_SETS - 1 → s.mark.pending ≡ h.buffer.pending
  pub flag : s.mark.sets < MAX_SETS - 1 → s.mark.unwritable ≡ h.buffer.is_unwritable
  pub all : untold h.buffer ≡ []

-- So it is with the seats of a channel and its head, where both are here.
abbrev pub TellsAt : {S T : Type 0} → List (Option SeatsView) → List (ChannelPartView S T) → ℕ → Type 0
TellsAt seats ps c = (s : SeatsView) (p : ChannelPartView _ _) (h : HeadView _) → slice_get seats c ≡ Some (Some s) → slice_get ps c ≡ Some p → p.head ≡ Some h → Tells s h

-- And the seats of a channel have settled each write that its head had not told: a step for each, in order, as it ended.
abbrev pub SettlesAt : {S T : Type 0} → List (Option SeatsView) → List (ChannelPartView S T) → ℕ → List (Option SeatsView) → Type 0
SettlesAt before ps c after = (s : SeatsView) (p : ChannelPartView _ _) → slice_get before c ≡ Some (Some s) → slice_get ps c ≡ Some p
    → (t : SeatsView) × (slice_get after c ≡ Some (Some t)) × TriesEach (part_outcomes p) (part_untold p) s.settle t.settle

-- The seats of the other channels are as they were.
abbrev pub KeepsOthers : List (Option SeatsView) → ℕ → List (Option SeatsView) → Type 0
KeepsOthers before c after = (x : ℕ) (slot : Option SeatsView) → x ≢ c → slice_get after x ≡ Some slot → slice_get before x ≡ Some slot

-- This was done to the parts, and then the words of a channel were told how its head stands: its seats settled each write that
-- this had not told. No other seats were used.
pub record TellsAfter {S T : Type 0} (plan : Plan) (does : List (ChannelPartView S T) → Type 0) (c : ℕ) (n n' : ExecutorNodes S T) : Type 0 where
  pub between : List (ChannelPartView S T)
  pub done : does between
  pub told : IsToldAt between c (channel_parts plan n')
  pub settled : SettlesAt (channel_seats plan n) between c (channel_seats plan n')
  pub others : KeepsOthers (channel_seats plan n) c (channel_seats plan n')

-- ---- what holds between two calls

-- The nodes that are on an executor hold, go on as the plan has them, and have told the words of their channels how each head
-- stands. Which heads are here, and where each channel has its part, is known.
pub record ExecutorStands {S T : Type 0} (world : World) (plan : Plan) (meaning : S → Meaning) (stands_after : S → List Event → Type 0) (state : T → TransportState) (n : ExecutorNodes S T) : Type 0 where
  pub is_world : world ≡ world_of true plan
  pub in_order : AreInOrder (length plan.channels) n
  pub nodes : NodesStand world plan meaning stands_after state n.number n.was_refused (channel_parts plan n)
  pub own : n.heads.items ≡ heads_of n.parts.items
  pub seated : AreSeated n.words.now plan (channel_seats plan n)
  pub told : (c : ℕ) → TellsAt (channel_seats plan n) (channel_parts plan n) c
