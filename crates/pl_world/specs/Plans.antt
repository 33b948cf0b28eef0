-- What a world plans: the capacity of its queues, its executors, and its channels, each with its path, its marks, its
-- transport's window and the call that it is to fail at, its bursts of chunks and user events, and how many of them come
-- before an abort, if there is one.
use Rattle.std.specs.Prelude.{ℕ, ◌+◌, List, length, map, Option}
use Rattle.pl_event.specs.declared.events.Event.{Event}
use Rattle.pl_event.specs.Meaning.{Meaning}
use Rattle.pl_event.specs.Inputs.{Bursts, recorded_input}
use Rattle.pl_event.specs.Lanes.{lane}
use Rattle.pl_head.specs.declared.inputs.ReadPlan.{ReadPlan}
use Rattle.pl_head.specs.Transports.{TransportState}
use Rattle.pl_world.specs.declared.session.Recorded.{Recorded}

-- what a session plans of one channel
pub record ChannelPlan : Type 0 where
  -- what the inbound handlers mean, the turn among them, from first to last
  pub inbound : List Meaning
  -- what the outbound handlers before the turn mean, the nearest to it first
  pub outbound : List Meaning
  -- the executor of each hop
  pub executors : List ℕ
  -- the marks, in bytes
  pub low : ℕ
  pub high : ℕ
  -- how many bytes its transport accepts in a call that does not fail, of those it is offered; none where that is not known
  pub window : Option ℕ
  -- the number of the call that its transport was told to fail at, from 1; none where it was not told to
  pub fail_at : Option ℕ
  pub bursts : Bursts
  -- after how many bursts it is aborted; none where it is not
  pub abort_after : Option ℕ

-- what a session plans
pub record Plan : Type 0 where
  pub capacity : ℕ
  pub executors : ℕ
  pub channels : List ChannelPlan

-- The plan of a recorded channel. Stages mean this, and transports are in this state.
abbrev pub channel_planned : {S T : Type 0} → (S → Meaning) → (T → TransportState) → Recorded S T → ChannelPlan
channel_planned meaning state r = record {
  inbound = map meaning r.pipeline.inbound;
  outbound = map meaning r.pipeline.outbound;
  executors = r.pipeline.executors;
  low = r.pipeline.low;
  high = r.pipeline.high;
  window = (state r.transport).window;
  fail_at = (state r.transport).fail_at;
  bursts = r.input.bursts;
  abort_after = r.input.abort_after;
}

-- The plan of recorded channels. It has a capacity and a number of executors.
abbrev pub planned : {S T : Type 0} → (S → Meaning) → (T → TransportState) → ℕ → ℕ → List (Recorded S T) → Plan
planned meaning state capacity executors channels =
    record { capacity = capacity; executors = executors; channels = map (channel_planned meaning state) channels }

-- what a channel is to read
abbrev pub read_plan : ChannelPlan → ReadPlan
read_plan p = record { bursts = p.bursts; abort_after = p.abort_after }

-- ---- its lanes

-- the hop that enters the tail, and the last, which enters the head
abbrev pub tail_hop : ChannelPlan → ℕ
tail_hop p = length p.inbound

abbrev pub planned_head_hop : ChannelPlan → ℕ
planned_head_hop p = length p.inbound + 1 + length p.outbound

-- The content that a hop's lane has in all: that of all bursts, those after an abort too.
abbrev pub content : ChannelPlan → ℕ → List Event
content p hop = lane p.inbound p.outbound (recorded_input p.bursts) hop
