-- What contracts see of a tail: the events and flags that came to the end of a channel's inbound handlers.
use Rattle.std.specs.Prelude.{◌≡◌, ◌⊎◌, ℕ, ◌+◌, ◌≤◌, ◌^◌, List, [], ◌∷◌, ◌++◌, length, Bool, true, false, if◌then◌else◌}
use Rattle.pl_event.specs.declared.events.Event.{Event}
use Rattle.pl_event.specs.declared.outcomes.Cause.TheVariants.{Memory}
use Rattle.pl_event.specs.declared.envelopes.Kind.{Kind}
use Rattle.pl_event.specs.declared.envelopes.Kind.TheVariants.{Data, Flags}
use Rattle.pl_event.specs.declared.envelopes.Lane.{Lane}
use Rattle.pl_event.specs.declared.envelopes.Item.{Item}
use Rattle.pl_event.specs.declared.envelopes.Item.TheVariants as item
use Rattle.pl_event.specs.Hops.{same_hop}
use Rattle.pl_context.specs.declared.standing.Standing.{Standing}
use Rattle.pl_context.specs.declared.standing.Standing.TheVariants as standings
use Rattle.pl_context.specs.declared.standing.Took.{Took}
use Rattle.pl_context.specs.declared.standing.Took.TheVariants as took
use Rattle.pl_event.specs.declared.limits.TheConstants.{MAX_ITEMS}

-- The tail of a channel, with its record (ChannelPipeline): the events that it holds, and how many were handed over before
-- them. For how many more events, and more flags, there is room without a growth, stands beside them.
pub record TailView : Type 0 where
  pub channel : ℕ
  pub hop : ℕ
  pub taken : ℕ
  pub flags_taken : ℕ
  pub standing : Standing
  pub handed : ℕ
  pub events : List Event
  pub flags : List Bool
  pub flags_stopped : Bool
  pub room : ℕ
  pub flags_room : ℕ

-- a tail that has taken nothing
abbrev pub new_tail : ℕ → ℕ → TailView
new_tail channel k = record {
  channel = channel;
  hop = k;
  taken = 0;
  flags_taken = 0;
  standing = standings.Open;
  handed = 0;
  events = [];
  flags = [];
  flags_stopped = false;
  room = 0;
  flags_room = 0;
}

-- a lane enters the tail
pub record EntersTail (t : TailView) (lane : Lane) : Type 0 where
  pub channel : lane.channel ≡ t.channel
  pub hop : lane.hop ≡ t.hop

-- how many items a tail has taken, by kind
abbrev pub kind_taken : TailView → Kind → ℕ
kind_taken t Data = t.taken
kind_taken t Flags = t.flags_taken

-- how many items of a lane a tail has taken
abbrev pub taken_of : TailView → Lane → ℕ
taken_of t lane =
    if same_hop lane (record { channel = t.channel; kind = lane.kind; hop = t.hop }) then kind_taken t lane.kind else 0

-- a tail that took one item more, of this kind
abbrev pub counted : Kind → TailView → TailView
counted Data t = record t { taken = t.taken + 1 }
counted Flags t = record t { flags_taken = t.flags_taken + 1 }

-- An open tail records an event wherever there is room, and else fails where memory runs out.
abbrev pub RecordsEvent : TailView → Event → Took → TailView → Type 0
RecordsEvent t x took.Ran t' = (t' ≡ record t { events = t.events ++ x ∷ []; room = t'.room }) × (t.room ≤ t'.room + 1)
RecordsEvent t x (took.Failed cause) t' = (cause ≡ Memory) × (t.room ≡ 0) × (t' ≡ record t { standing = standings.Failed Memory; room = t'.room })
RecordsEvent t x took.Ended t' = ⊥
RecordsEvent t x took.Dropped t' = ⊥

-- What an open tail does with a data item. (A flag does not stand on its data lane, and nothing comes of it.)
abbrev pub RecordsItem : TailView → Item → Took → TailView → Type 0
RecordsItem t (item.Event x) answer t' = RecordsEvent t x answer t'
RecordsItem t item.End answer t' = (answer ≡ took.Ended) × (t' ≡ record t { standing = standings.Ended })
RecordsItem t (item.Fail cause) answer t' = (answer ≡ took.Failed cause) × (t' ≡ record t { standing = standings.Failed cause })
RecordsItem t (item.Flag value) answer t' = (answer ≡ took.Ran) × (t' ≡ t)

-- One flag more is recorded.
pub record AddsFlag (t : TailView) (value : Bool) (t' : TailView) : Type 0 where
  pub same : t' ≡ record t { flags = t.flags ++ value ∷ []; flags_room = t'.flags_room }
  pub room : t.flags_room ≤ t'.flags_room + 1

-- There is no room for a flag, and no later one is recorded.
pub record LosesFlag (t t' : TailView) : Type 0 where
  pub same : t' ≡ record t { flags_stopped = true; flags_room = t'.flags_room }
  pub full : t.flags_room ≡ 0

-- A flag is recorded wherever there is room, until memory runs out for one, and none from then on.
pub record RecordsFlag (t : TailView) (value : Bool) (t' : TailView) : Type 0 where
  pub goes_on : t.flags_stopped ≡ false → AddsFlag t value t' ⊎ LosesFlag t t'
  pub stopped : t.flags_stopped ≡ true → t' ≡ t

-- What a tail does with a flag. Nothing comes of any other item, which does not stand on a flags lane.
abbrev pub RecordsFlagItem : TailView → Item → TailView → Type 0
RecordsFlagItem t (item.Flag value) t' = RecordsFlag t value t'
RecordsFlagItem t (item.Event x) t' = t' ≡ t
RecordsFlagItem t item.End t' = t' ≡ t
RecordsFlagItem t (item.Fail cause) t' = t' ≡ t

-- a tail that has handed its record over
abbrev pub handed_over : TailView → TailView
handed_over t = record t { handed = t.handed + length t.events; events = []; room = 0 }

-- the same node, a tail, has taken as many items
pub record SameNode (t t' : TailView) : Type 0 where
  pub channel : t'.channel ≡ t.channel
  pub hop : t'.hop ≡ t.hop
  pub taken : t'.taken ≡ t.taken
  pub flags_taken : t'.flags_taken ≡ t.flags_taken
  pub handed : t'.handed ≡ t.handed

-- Counts stay in their bounds. No more was recorded than taken.
pub record IsTail (taken flags_taken recorded : ℕ) : Type 0 where
  pub counts : taken ≤ MAX_ITEMS
  pub recorded_within : recorded ≤ taken
  pub flag_counts : flags_taken ≤ 2 ^ 32
