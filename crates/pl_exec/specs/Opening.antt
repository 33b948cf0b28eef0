-- The inboxes of all executors once they are open, what each executor has of them, and the nodes with which it starts.
use Rattle.std.specs.Global.{Vec}
use Rattle.std.specs.Prelude.{◌≡◌, ◌≢◌, ℕ, ◌+◌, ◌-◌, ◌<◌, ◌≤◌, ◌^◌, ◌==◌, ◌||◌, Bool, true, false, not, cond, List, [], ◌∷◌, ◌++◌, length, map, filter, get_or, replicate, slice_get, All, Some, None}
use Rattle.std.specs.List.{range_with_len}
use Rattle.pl_event.specs.declared.envelopes.Lane.{Lane}
use Rattle.pl_context.specs.Stops.{HasPlaces, AreAmong, no_stops}
use Rattle.pl_queue.specs.Ends.{MailboxEnds}
use Rattle.pl_queue.specs.Rule.{Each}
use Rattle.pl_queue.specs.Views.{fresh_sends, fresh_takes, has_lane}
use Rattle.pl_queue.specs.Left.{Apart, lanes_of_senders}
use Rattle.pl_queue.specs.Limits.{opening_fault}
use Rattle.pl_words.specs.Names.{Name}
use Rattle.pl_words.specs.Admissions.{SendSeatView, OwnerSeatView, new_send_seat, new_owner_seat}
use Rattle.pl_words.specs.declared.status.Status.TheVariants.{Accepting}
use Rattle.pl_flow.specs.Flows.{point}
use Rattle.pl_outbox.specs.Admitting.{FewLanes}
use Rattle.pl_outbox.specs.declared.inbox.Inbox.{Inbox}
use Rattle.pl_outbox.specs.OutboxViews.{OutboxView, waits_for}
use Rattle.pl_threads.specs.NodesViews.{OwnNodesView}
use Rattle.pl_threads.specs.Running.{ExecutorView}
use Rattle.pl_exec.specs.declared.lanes.Leaving.{Leaving}
use Rattle.pl_exec.specs.declared.lanes.WayIn.{WayIn}

-- ---- the lanes

-- The lanes between executors: for each target, and for each origin, those from that origin to that target.
abbrev pub LaneTable : Type 0
LaneTable = List (List (List Lane))

-- those of these lanes that go to a target
abbrev pub lanes_with : List Leaving → ℕ → List Lane
lanes_with leaving target = map (λ l. l.lane) (filter (λ l. l.target == target) leaving)

abbrev pub senders_to : List (Vec Leaving) → ℕ → List (List Lane)
senders_to lanes target = map (λ leaving. lanes_with leaving.items target) lanes

-- by what each executor writes to others
abbrev pub lanes_in : List (Vec Leaving) → LaneTable
lanes_in lanes = map (senders_to lanes) (range_with_len 0 (length lanes))

abbrev pub lanes_to : LaneTable → ℕ → List (List Lane)
lanes_to lanes target = get_or lanes target []

abbrev pub table_lanes : LaneTable → ℕ → ℕ → List Lane
table_lanes lanes origin target = get_or (lanes_to lanes target) origin []

-- each target has a list for each executor
abbrev pub IsSquare : LaneTable → Type 0
IsSquare lanes = All (λ target. length target ≡ length lanes) lanes

-- A mailbox for these senders can be opened, if there is memory.
pub record CanOpen (capacity : ℕ) (senders : List (List Lane)) : Type 0 where
  pub apart : Apart (lanes_of_senders senders)
  pub within : opening_fault senders capacity ≡ None

-- So it is with the mailbox of each target, and there are not too many for admissions.
pub record CanOpenAll (capacity : ℕ) (lanes : LaneTable) : Type 0 where
  pub square : IsSquare lanes
  pub few : length lanes < 2 ^ 16
  pub each : All (CanOpen capacity) lanes

-- ---- what is opened

-- An inbox, as its senders and its owner know it: its mailbox, and the name of its admission.
pub record InboxView (M : Type 0) : Type 0 where
  pub mailbox : M
  pub name : Name

abbrev pub inbox_view : {W M S T : Type 0} → Inbox W M S T → InboxView M
inbox_view inbox = record { mailbox = inbox.mailbox; name = inbox.admission.name }

-- ---- the ways to a target

-- The way of an executor to a target, by the lanes between them.
pub record Way : Type 0 where
  pub origin : ℕ
  pub lanes : List Lane

abbrev pub way_by : ℕ → List Lane → Way
way_by origin lanes = record { origin = origin; lanes = lanes }

-- an executor has a way to each target to which it has lanes, and to itself
abbrev pub is_way : ℕ → ℕ → List Lane → Bool
is_way target origin lanes = (origin == target) || not (length lanes == 0)

-- the ways to a target from executors with these lanes there, of which the first has this number
abbrev pub ways_from : ℕ → ℕ → List (List Lane) → List Way
ways_from target n [] = []
ways_from target n (lanes ∷ more) = cond (is_way target n lanes) (way_by n lanes ∷ ways_from target (n + 1) more) (ways_from target (n + 1) more)

-- the way of one of them, if it has one
abbrev pub way_if : ℕ → ℕ → List Lane → List Way
way_if target origin lanes = cond (is_way target origin lanes) (way_by origin lanes ∷ []) []

-- those of all executors
abbrev pub ways_to : ℕ → List (List Lane) → List Way
ways_to target senders = ways_from target 0 senders

abbrev pub ways_in : List WayIn → List Way
ways_in ways = map (λ way. way_by way.origin way.lanes.items) ways

-- these are ways of executors before this one
abbrev pub AreBefore : ℕ → List Way → Type 0
AreBefore origin ways = All (λ way. way.origin < origin) ways

-- the ways to a target get these lanes of the executor that comes last among them
abbrev pub GetLanes : ℕ → ℕ → List Lane → List Way → List Way → Type 0
GetLanes target origin lanes before after = (others : List Way) (own : List Lane) → AreBefore origin others → before ≡ others ++ way_if target origin own → after ≡ others ++ way_if target origin (own ++ lanes)

-- For each target the ways to it.
pub record AreAllWays (lanes : LaneTable) (table : List (Vec WayIn)) : Type 0 where
  pub count : length table ≡ length lanes
  pub each : (target : ℕ) (ways : Vec WayIn) → slice_get table target ≡ Some ways → ways_in ways.items ≡ ways_to target (lanes_to lanes target)

-- What an executor has of its own inbox.
pub record OwnView (T : Type 0) : Type 0 where
  pub taker : T
  pub owner : OwnerSeatView

-- The column of a target: the senders of its mailbox and the seats of its admission, one of each for each executor that has a
-- way there, and the numbers of these.
pub record ColumnView (S : Type 0) : Type 0 where
  pub origins : List ℕ
  pub senders : List S
  pub seats : List SendSeatView

module _ {M S T : Type 0} (ends : MailboxEnds M S T) where
  -- The taker and the owner's seat of an inbox with these senders. Nothing was taken, and nothing was closed.
  pub record IsOwn (inbox : InboxView M) (senders : List (List Lane)) (own : OwnView T) : Type 0 where
    pub taker : ends.is_taker inbox.mailbox own.taker
    pub takes : ends.takes_of own.taker ≡ fresh_takes (lanes_of_senders senders)
    pub owner : own.owner ≡ new_owner_seat inbox.name

  -- Senders of an inbox on the lanes of these ways, and as many seats. Nothing was sent, and nothing was admitted.
  pub record IsColumn (inbox : InboxView M) (ways : List Way) (c : ColumnView S) : Type 0 where
    pub origins : c.origins ≡ map (λ way. way.origin) ways
    pub senders : Each (ends.is_sender inbox.mailbox) c.senders
    pub sends : map ends.sends_of c.senders ≡ map (λ way. fresh_sends way.lanes) ways
    pub count : length c.seats ≡ length ways
    pub seats : All (λ s. s ≡ new_send_seat inbox.name s.number) c.seats

  -- So are the columns of all targets.
  pub record AreColumns (lanes : LaneTable) (inboxes : List (InboxView M)) (columns : List (ColumnView S)) : Type 0 where
    pub count : length columns ≡ length inboxes
    pub each : (target : ℕ) (inbox : InboxView M) (c : ColumnView S) → slice_get inboxes target ≡ Some inbox → slice_get columns target ≡ Some c → IsColumn inbox (ways_to target (lanes_to lanes target)) c

  -- The inboxes of the first of all targets, what their executors have of them, and their columns.
  pub record AreOpened (lanes : LaneTable) (inboxes : List (InboxView M)) (all : List (OwnView T)) (columns : List (ColumnView S)) : Type 0 where
    pub count : length all ≡ length inboxes
    pub own : (target : ℕ) (inbox : InboxView M) (o : OwnView T) → slice_get inboxes target ≡ Some inbox → slice_get all target ≡ Some o → IsOwn inbox (lanes_to lanes target) o
    pub whole : AreColumns lanes inboxes columns

-- ---- the nodes of an executor

-- Nodes that have taken and made nothing, on the executor of this number. Each lane that they write enters one of them, or is
-- one of those to its target; and each lane to them is written elsewhere. There are places for all of them, so many on the
-- work list, and these by target for what waits; and not too many for the seats.
pub record FitsLanes (lanes : LaneTable) (number : ℕ) (v : OwnNodesView) (data_lanes : ℕ) (places : List ℕ) : Type 0 where
  pub at : v.executor ≡ number
  pub unrefused : v.was_refused ≡ false
  pub fresh : (l : Lane) → v.lanes.written l ≡ true → v.lanes.came l ≡ point 0 false
  pub there : (l : Lane) → v.lanes.written l ≡ true → v.lanes.target l < length lanes
  pub own : (l : Lane) → v.lanes.written l ≡ true → v.lanes.target l ≡ number → v.lanes.taken l ≡ 0
  pub away : (l : Lane) → v.lanes.written l ≡ true → v.lanes.target l ≢ number → has_lane l (table_lanes lanes number (v.lanes.target l)) ≡ true
  pub entering : (l : Lane) → has_lane l (lanes_of_senders (lanes_to lanes number)) ≡ true → (v.lanes.target l ≡ number) × (v.lanes.written l ≡ false) × (v.lanes.taken l ≡ 0)
  pub work : HasPlaces (no_stops data_lanes) v.lanes.places
  pub targets : length places ≡ length lanes
  pub hops : ℕ → List Lane
  pub placed : (target count : ℕ) → slice_get places target ≡ Some count → HasPlaces (no_stops count) (hops target)
  pub among : (l : Lane) → v.lanes.written l ≡ true → AreAmong (l ∷ []) (hops (v.lanes.target l))
  pub few : FewLanes v.lanes

-- So do the nodes and places of all executors, by number. All work lists have as many.
pub record FitAll {N : Type 0} (view_of : N → OwnNodesView) (stands : N → Type 0) (lanes : LaneTable) (nodes : List N) (data_lanes : ℕ) (places : List (Vec ℕ)) : Type 0 where
  pub nodes_count : length nodes ≡ length lanes
  pub places_count : length places ≡ length lanes
  pub stand : All stands nodes
  pub each : (number : ℕ) (part : N) (row : Vec ℕ) → slice_get nodes number ≡ Some part → slice_get places number ≡ Some row → FitsLanes lanes number (view_of part) data_lanes row.items

-- ---- the ways of executors

-- The ways of an executor: by target the number of the way there, and by way its outbox and the places that are reserved for
-- what waits for it.
pub record WaysView : Type 0 where
  pub ways : List ℕ
  pub outboxes : List OutboxView
  pub places : List ℕ

-- none to any of so many targets
abbrev pub no_ways : ℕ → WaysView
no_ways count = record { ways = replicate count (2 ^ 16 - 1); outboxes = []; places = [] }

-- By an outbox on these lanes nothing was sent, and nothing was admitted.
pub record IsFresh (lanes : List Lane) (b : OutboxView) : Type 0 where
  pub name : Name
  pub sends : b.sends ≡ fresh_sends lanes
  pub seat : b.seat ≡ new_send_seat name b.seat.number

-- The ways of the executor of this number to the first of all targets: one to each to which it has one, on the lanes there, with
-- the places that are reserved for that target.
pub record HasWays (lanes : LaneTable) (number : ℕ) (reserved : List ℕ) (count : ℕ) (v : WaysView) : Type 0 where
  pub targets : List ℕ
  pub few : length targets ≤ count
  pub ways_count : length v.ways ≡ length lanes
  pub outboxes_count : length targets ≡ length v.outboxes
  pub places_count : length targets ≡ length v.places
  pub ways : (target : ℕ) → target < count → is_way target number (table_lanes lanes number target) ≡ true → (way : ℕ) × (slice_get v.ways target ≡ Some way) × (slice_get targets way ≡ Some target)
  pub each : (way target : ℕ) (b : OutboxView) → slice_get targets way ≡ Some target → slice_get v.outboxes way ≡ Some b → IsFresh (table_lanes lanes number target) b
  pub placed : (way target p : ℕ) → slice_get targets way ≡ Some target → slice_get v.places way ≡ Some p → slice_get reserved target ≡ Some p

-- So it is with the ways of all executors.
abbrev pub HaveWays : LaneTable → List (Vec ℕ) → ℕ → List WaysView → Type 0
HaveWays lanes places count rows = (number : ℕ) (v : WaysView) (row : Vec ℕ) → slice_get rows number ≡ Some v → slice_get places number ≡ Some row → HasWays lanes number row.items count v

-- A table of lanes, and for each of its executors places for each target.
pub record HaveTargets (lanes : LaneTable) (places : List (Vec ℕ)) : Type 0 where
  pub square : IsSquare lanes
  pub count : length places ≡ length lanes
  pub targets : All (λ row. length row.items ≡ length lanes) places

module _ {M S T : Type 0} (ends : MailboxEnds M S T) where
  -- The column of this target can be given to executors that have their ways to all before it.
  pub record CanDeal (lanes : LaneTable) (inboxes : List (InboxView M)) (target : ℕ) (c : ColumnView S) (places : List (Vec ℕ)) (rows : List WaysView) : Type 0 where
    pub placed : HaveTargets lanes places
    pub inboxes_count : length inboxes ≡ length lanes
    pub rows_count : length rows ≡ length lanes
    pub there : target < length lanes
    pub column : (inbox : InboxView M) → slice_get inboxes target ≡ Some inbox → IsColumn ends inbox (ways_to target (lanes_to lanes target)) c
    pub ways : HaveWays lanes places target rows

  -- So can those of all targets, one after the other.
  pub record CanDealAll (lanes : LaneTable) (inboxes : List (InboxView M)) (columns : List (ColumnView S)) (places : List (Vec ℕ)) : Type 0 where
    pub placed : HaveTargets lanes places
    pub inboxes_count : length inboxes ≡ length lanes
    pub whole : AreColumns ends lanes inboxes columns

-- ---- executors before their first turn

-- An executor before its first turn: nothing waits for others, nothing was taken, and its queue is accepting.
pub record IsFirst {N : Type 0} (number : ℕ) (e : ExecutorView N) : Type 0 where
  pub numbered : e.number ≡ number
  pub turns : e.turns ≡ 0
  pub waits : (target : ℕ) → waits_for e.outboxes target ≡ []
  pub taken : e.takes.pops ≡ 0
  pub phase : e.owner.phase ≡ Accepting

module _ {M S T N : Type 0} (ends : MailboxEnds M S T) (view_of : N → OwnNodesView) (stands : N → Type 0) where
  -- An executor with these nodes, these ends of its own, these ways and so many places on its work list can start: all fit the
  -- same lanes.
  pub record Starts (inboxes : List (InboxView M)) (number : ℕ) (own_ends : OwnView T) (its_ways : WaysView) (nodes : N) (data_lanes : ℕ) : Type 0 where
    pub lanes : LaneTable
    pub places : List ℕ
    pub square : IsSquare lanes
    pub count : length inboxes ≡ length lanes
    pub own : (inbox : InboxView M) → slice_get inboxes number ≡ Some inbox → IsOwn ends inbox (lanes_to lanes number) own_ends
    pub ways : HasWays lanes number places (length lanes) its_ways
    pub stood : stands nodes
    pub fits : FitsLanes lanes number (view_of nodes) data_lanes places

  -- All executors can start: their inboxes were opened for the lanes that their nodes fit.
  pub record CanStart (inboxes : List (InboxView M)) (all : List (OwnView T)) (columns : List (ColumnView S)) (nodes : List N) (data_lanes : ℕ) (places : List (Vec ℕ)) : Type 0 where
    pub lanes : LaneTable
    pub square : IsSquare lanes
    pub count : length inboxes ≡ length lanes
    pub opened : AreOpened ends lanes inboxes all columns
    pub fit : FitAll view_of stands lanes nodes data_lanes places
