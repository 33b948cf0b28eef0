-- A channel before any move: which nodes it has, and that none of them has taken or made anything; and all channels,
-- by number.
use Rattle.std.specs.Prelude.{◌≡◌, ℕ, ◌+◌, ◌<◌, ◌≤◌, Bool, List, [], ◌∷◌, ◌++◌, length, map, replicate, slice_get, Option, Some, None, is_some, true, false, All}
use Rattle.std.specs.List.{position_or_len}
use Rattle.pl_event.specs.declared.envelopes.Lane.{Lane}
use Rattle.pl_event.specs.declared.events.Event.{Event}
use Rattle.pl_event.specs.Hops.{flags_lane}
use Rattle.pl_event.specs.Meaning.{Meaning}
use Rattle.pl_event.specs.Paths.{is_turn}
use Rattle.pl_build.specs.declared.limits.TheConstants.{MAX_HANDLERS}
use Rattle.pl_context.specs.declared.standing.Standing.TheVariants as standings
use Rattle.pl_context.specs.ContextViews.{ContextView}
use Rattle.pl_context.specs.TailViews.{new_tail}
use Rattle.pl_flow.specs.Flows.{point}
use Rattle.pl_head.specs.Transports.{TransportState}
use Rattle.pl_head.specs.ReadSteps.{entrance}
use Rattle.pl_head.specs.HeadStand.{HeadView, HeadStandsAfter, ReadsStand, gone_of}
use Rattle.pl_part.specs.NewParts.{whole_slots}
use Rattle.pl_part.specs.Parts.{ChannelPartView, PartHolds, part_taken, part_writes, part_came}
use Rattle.pl_world.specs.declared.session.Recorded.{Recorded}
use Rattle.pl_world.specs.Plans.{ChannelPlan, Plan, channel_planned, read_plan, tail_hop, planned_head_hop}
use Rattle.pl_world.specs.Worlds.{IsUncalled}
use Rattle.pl_channel.specs.Lanes.{world_of}

-- the hop of the turn, the first of the inbound handlers that is one
abbrev pub turn_hop : ChannelPlan → ℕ
turn_hop p = position_or_len (λ m. is_turn m.direction) p.inbound

-- A head at the last hop of a channel with this plan, over this transport, which was not called. It has taken nothing and read nothing, its lane
-- is open, and a write that comes gets a number. Each part of it is as it begins but the rooms of its buffer.
pub record IsNewHead {T : Type 0} (state : T → TransportState) (number : ℕ) (p : ChannelPlan) (transport : T) (h : HeadView T) : Type 0 where
  pub channel_is : h.channel ≡ number
  pub hop_is : h.hop ≡ planned_head_hop p
  pub transport_is : h.transport ≡ transport
  pub uncalled : IsUncalled (state transport)
  pub low : h.buffer.low ≡ p.low
  pub high : h.buffer.high ≡ p.high
  pub taken : h.taken ≡ 0
  pub standing : h.standing ≡ standings.Open
  pub failure : h.failure ≡ None
  pub closed : h.is_closed ≡ false
  pub numbering : h.buffer.is_full ≡ false
  pub flags : h.buffer.flags ≡ record { lane = flags_lane number 0; made = 0; is_open = true }
  pub entrance_is : h.input.port.lane ≡ entrance number
  pub reads : ReadsStand (read_plan p) 0 false h
  pub after : HeadStandsAfter state h [] [] []
  pub settled : h.buffer.settled ≡ []
  pub told : h.buffer.told ≡ 0
  pub gone : gone_of h ≡ (0, false)

-- A part has all nodes of a planned channel. Each is at its hop: contexts in each slot but the tail's, the tail, and
-- the head.
pub record IsWhole {S T : Type 0} (state : T → TransportState) (number : ℕ) (p : ChannelPlan) (transport : T) (part : ChannelPartView S T) : Type 0 where
  pub channel_is : part.path.channel ≡ number
  pub executors_are : part.path.executors ≡ p.executors
  pub hops : length p.executors ≡ planned_head_hop p + 1
  pub few : planned_head_hop p ≤ MAX_HANDLERS + 1
  pub tail_hop_is : part.path.tail_hop ≡ tail_hop p
  pub turn_is : part.path.turn ≡ turn_hop p
  pub turned : part.path.turn < part.path.tail_hop
  pub filled : map (λ (slot : Option (ContextView S)). is_some slot) part.path.contexts ≡ replicate (length p.inbound) true ++ false ∷ replicate (length p.outbound) true
  pub tail : part.path.tail ≡ Some (new_tail number (tail_hop p))
  pub head : (h : HeadView T) × (part.head ≡ Some h) × IsNewHead state number p transport h

-- The contexts of a part are new. They are those of these stages, in the order of the two chains. No stage has had a
-- step, and no context has taken or made anything.
pub record HasNewStages {S T : Type 0} (meaning : S → Meaning) (stands_after : S → List Event → Type 0) (number : ℕ) (inbound outbound : List S) (part : ChannelPartView S T) : Type 0 where
  pub inbound_new : All (λ stage. stands_after stage []) inbound
  pub outbound_new : All (λ stage. stands_after stage []) outbound
  pub contexts_are : part.path.contexts ≡ whole_slots meaning number inbound outbound

-- No lane of a part has moved. Nothing was taken of one, and each that one of its nodes writes is at its start.
pub record IsAtStart {S T : Type 0} (meaning : S → Meaning) (part : ChannelPartView S T) : Type 0 where
  pub taken : (l : Lane) → part_taken part l ≡ 0
  pub came : (l : Lane) → part_writes meaning part l ≡ true → part_came meaning part l ≡ point 0 false

-- ---- recorded channels

module _ {S T : Type 0} (meaning : S → Meaning) (stands_after : S → List Event → Type 0) (state : T → TransportState) where
  -- A part has all nodes of a recorded channel, of which none has taken or made anything, and holds in the worlds of each plan
  -- that has it under this number.
  pub record IsWholePart (number : ℕ) (r : Recorded S T) (part : ChannelPartView S T) : Type 0 where
    pub whole : IsWhole state number (channel_planned meaning state r) r.transport part
    pub stages : HasNewStages meaning stands_after number r.pipeline.inbound r.pipeline.outbound part
    pub unmoved : IsAtStart meaning part
    pub holds : (refuses : Bool) (plan : Plan) → slice_get plan.channels number ≡ Some (channel_planned meaning state r) → PartHolds (world_of refuses plan) meaning stands_after state part

  -- Each part has a recorded channel's nodes, as made. It is so of each of recorded channels, by number.
  pub record AreWholeParts (rs : List (Recorded S T)) (parts : List (ChannelPartView S T)) : Type 0 where
    pub count : length parts ≡ length rs
    pub each : (number : ℕ) (r : Recorded S T) (part : ChannelPartView S T) → slice_get rs number ≡ Some r → slice_get parts number ≡ Some part → IsWholePart number r part
