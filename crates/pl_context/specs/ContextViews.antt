-- What contracts see of a context: a stage at its hop of a channel, what it has taken, and its ports.
use Rattle.std.specs.Prelude.{◌≡◌, ℕ, ◌+◌, ◌<◌, ◌≤◌, ◌^◌, List, [], ◌∷◌, ◌++◌, Bool, true, false, if◌then◌else◌}
use Rattle.pl_event.specs.declared.events.Event.{Event}
use Rattle.pl_event.specs.declared.envelopes.Kind.{Kind}
use Rattle.pl_event.specs.declared.envelopes.Kind.TheVariants.{Data, Flags}
use Rattle.pl_event.specs.declared.envelopes.Lane.{Lane}
use Rattle.pl_event.specs.declared.stages.Direction.{Direction}
use Rattle.pl_event.specs.declared.stages.Direction.TheVariants.{Inbound, Outbound, Turn}
use Rattle.pl_event.specs.Hops.{same_hop}
use Rattle.pl_context.specs.declared.contexts.TheConstants.{MAX_HANDLERS}
use Rattle.pl_context.specs.declared.ports.Port.{Port}
use Rattle.pl_context.specs.declared.standing.Standing.{Standing}
use Rattle.pl_context.specs.declared.standing.Standing.TheVariants as standings
use Rattle.pl_event.specs.declared.limits.TheConstants.{MAX_ITEMS}

-- A stage at its hop (ChannelHandlerContext). taken counts the items of its data lane, flags_taken those of its
-- flags lane.
pub record ContextView (S : Type 0) : Type 0 where
  pub stage : S
  pub channel : ℕ
  pub hop : ℕ
  pub taken : ℕ
  pub flags_taken : ℕ
  pub standing : Standing
  pub failed_by_call : Bool
  pub up : Port
  pub down : Port
  pub flags : Port

-- A hop that enters stages of this direction. With k inbound handlers, the turn among them, hops below k enter those,
-- hop k the tail, and the hops after it the outbound handlers.
abbrev pub IsHop : Direction → ℕ → ℕ → Type 0
IsHop Inbound hop k = (hop < k) × (k ≤ MAX_HANDLERS)
IsHop Turn hop k = (hop < k) × (k ≤ MAX_HANDLERS)
IsHop Outbound hop k = (k < hop) × (hop ≤ MAX_HANDLERS)

-- whether a stage of this direction has a lane upwards, and one downwards
abbrev pub has_up : Direction → Bool
has_up Inbound = true
has_up Turn = true
has_up Outbound = false

abbrev pub has_down : Direction → Bool
has_down Inbound = false
has_down Turn = true
has_down Outbound = true

-- the hop of its lane downwards: the turn begins at the first hop after the tail
abbrev pub down_hop : Direction → ℕ → ℕ → ℕ
down_hop Inbound hop k = hop + 1
down_hop Turn hop k = k + 1
down_hop Outbound hop k = hop + 1

-- a port that has given nothing
abbrev pub new_port : ℕ → Kind → ℕ → Bool → Port
new_port channel kind hop is_open =
    record { lane = record { channel = channel; kind = kind; hop = hop }; made = 0; is_open = is_open }

-- a stage at its hop that has taken nothing
abbrev pub new_context : {S : Type 0} → Direction → ℕ → ℕ → ℕ → S → ContextView S
new_context direction channel hop k stage = record {
  stage = stage;
  channel = channel;
  hop = hop;
  taken = 0;
  flags_taken = 0;
  standing = standings.Open;
  failed_by_call = false;
  up = new_port channel Data (hop + 1) (has_up direction);
  down = new_port channel Data (down_hop direction hop k) (has_down direction);
  flags = new_port channel Flags (hop + 1) (has_up direction);
}

-- a lane enters the context
pub record Enters {S : Type 0} (c : ContextView S) (lane : Lane) : Type 0 where
  pub channel : lane.channel ≡ c.channel
  pub hop : lane.hop ≡ c.hop

-- how many items a context has taken, by kind
abbrev pub kind_taken : {S : Type 0} → ContextView S → Kind → ℕ
kind_taken c Data = c.taken
kind_taken c Flags = c.flags_taken

-- how many items of a lane a context has taken
abbrev pub taken_of : {S : Type 0} → ContextView S → Lane → ℕ
taken_of c lane =
    if same_hop lane (record { channel = c.channel; kind = lane.kind; hop = c.hop }) then kind_taken c lane.kind else 0

-- a lane has fewer items than this
abbrev pub number_limit : Kind → ℕ
number_limit Data = MAX_ITEMS
number_limit Flags = 2 ^ 32

-- the lane of a port, where that may still put something
abbrev pub lane_of : Port → List Lane
lane_of p = if p.is_open then p.lane ∷ [] else []

-- the lanes on which a context may still put something
abbrev pub open_lanes : {S : Type 0} → ContextView S → List Lane
open_lanes c = lane_of c.up ++ lane_of c.down ++ lane_of c.flags

-- the same node, a context, has taken as many items
pub record SameNode {S : Type 0} (c c' : ContextView S) : Type 0 where
  pub channel : c'.channel ≡ c.channel
  pub hop : c'.hop ≡ c.hop
  pub taken : c'.taken ≡ c.taken
  pub flags_taken : c'.flags_taken ≡ c.flags_taken

-- one item of a kind, in another kind's count
abbrev pub one_of : Kind → Kind → ℕ
one_of Data Data = 1
one_of Data Flags = 0
one_of Flags Data = 0
one_of Flags Flags = 1

-- What is true of every context. The numbers that a lane was given stay in their bounds, no more flags went on than
-- came, and the buffers are empty.
pub record IsContext (taken flags_taken : ℕ) (up down flags : Port) (up_events down_events : List Event) : Type 0 where
  pub above : up.is_open ≡ true → up.made ≤ MAX_ITEMS
  pub below : down.is_open ≡ true → down.made ≤ MAX_ITEMS
  pub aside : flags.is_open ≡ true → flags.made ≤ flags_taken
  pub counts : taken ≤ MAX_ITEMS
  pub flag_counts : flags_taken ≤ 2 ^ 32
  pub up_empty : up_events ≡ []
  pub down_empty : down_events ≡ []
