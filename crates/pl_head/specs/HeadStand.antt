-- What contracts see of a head, and the events and sizes after which it may stand.
use Rattle.std.specs.Prelude.{◌≡◌, ◌⊎◌, ℕ, ◌+◌, ◌*◌, ◌-◌, ◌≤◌, ◌^◌, List, [], ◌∷◌, ◌++◌, length, Bool, true, false, ◌||◌, ◌&&◌, not, is_some, nat_le, Option, Some, None, IsSome, if◌then◌else◌, ◌==◌}
use Rattle.pl_event.specs.Hops.{data_lane, flags_lane}
use Rattle.pl_event.specs.declared.elements.Element.{Element}
use Rattle.pl_event.specs.declared.events.Event.{Event}
use Rattle.pl_event.specs.declared.envelopes.Lane.{Lane}
use Rattle.pl_event.specs.declared.envelopes.Item.{Item}
use Rattle.pl_event.specs.declared.envelopes.Item.TheVariants as item
use Rattle.pl_event.specs.declared.outcomes.Cause.{Cause}
use Rattle.pl_event.specs.declared.outcomes.Cause.TheVariants.{Memory, Transport, Aborted}
use Rattle.pl_event.specs.declared.outcomes.Outcome.{Outcome}
use Rattle.pl_context.specs.declared.standing.Standing.{Standing}
use Rattle.pl_context.specs.declared.standing.Standing.TheVariants as standings
use Rattle.pl_context.specs.declared.standing.Took.{Took}
use Rattle.pl_context.specs.declared.standing.Took.TheVariants as took
use Rattle.pl_context.specs.Standings.{is_over, cause_of}
use Rattle.pl_context.specs.OutputsViews.{OutputsView, PutsAll}
use Rattle.pl_context.specs.Ports.{offered}
use Rattle.pl_head.specs.declared.inputs.ReadPlan.{ReadPlan}
use Rattle.pl_head.specs.declared.heads.OutStep.{OutStep}
use Rattle.pl_head.specs.declared.heads.OutStep.TheVariants as step
use Rattle.pl_head.specs.declared.heads.ReadStep.{ReadStep}
use Rattle.pl_head.specs.declared.heads.ReadStep.TheVariants as reads
use Rattle.pl_head.specs.Writes.{out, waiting_bytes}
use Rattle.pl_head.specs.Marks.{Change, Removed}
use Rattle.pl_head.specs.Transports.{TransportState}
use Rattle.pl_head.specs.MarksStand.{SendsFlags}
use Rattle.pl_head.specs.Failures.{failure_outcome, AreOutcomes}
use Rattle.pl_head.specs.Settling.{AreSettled}
use Rattle.pl_head.specs.Buffers.{OutboundBufferView, BufferStands, BufferFailed, can_forget_writes, event_sizes}
use Rattle.pl_head.specs.ReadSteps.{entrance, is_burst, bursts_read}
use Rattle.pl_head.specs.InputStand.{InputView, InputStands, failed_input, fed_input}
use Rattle.pl_event.specs.declared.limits.TheConstants.{MAX_ITEMS}

-- The end of a channel at its transport (ChannelPipeline). It has how many items of its lane it has taken, how that
-- lane ended, why the head failed by itself, whether the lane has ended or failed since then, what waits to be
-- written, what is left to read, how many bytes of its output are gone, and whether it has forgotten some of what it took.
pub record HeadView (T : Type 0) : Type 0 where
  pub transport : T
  pub channel : ℕ
  pub hop : ℕ
  pub taken : ℕ
  pub standing : Standing
  pub failure : Option Cause
  pub is_closed : Bool
  pub buffer : OutboundBufferView
  pub input : InputView
  pub gone : ℕ
  pub has_forgotten : Bool

-- the buffer of a head that has failed by itself for this cause, or not
abbrev pub BufferAfter : Option Cause → List ℕ → OutboundBufferView → List Event → List Event → Bool → List Change → Type 0
BufferAfter None accepted b ys zs ended sizes = (zs ≡ []) × BufferStands accepted b ys ended sizes
BufferAfter (Some cause) accepted b ys zs ended sizes = BufferFailed (failure_outcome cause) accepted b ys zs ended sizes

module _ {T : Type 0} (state : T → TransportState) where
  -- The head may stand so after these events. It took the events ys, then failed by itself and took the events zs,
  -- and these sizes were added and removed. The event that found no room is the first of zs, and there are none while
  -- the head has not failed by itself. So ys and then zs are the events that it took while its lane was open.
  abbrev pub HeadStandsAfter : HeadView T → List Event → List Event → List Change → Type 0
  HeadStandsAfter h ys zs sizes = BufferAfter h.failure (state h.transport).accepted h.buffer ys zs (is_over h.standing) sizes

  -- How many bytes wait after these events (ChannelOutboundBuffer). None do after a failure of the head's own.
  abbrev pub waiting_at : HeadView T → List Event → ℕ
  waiting_at h ys = if is_some h.failure then 0 else waiting_bytes ys (length (state h.transport).accepted) (is_over h.standing)

  -- the outcomes of its writes, after these events (ChannelPromise)
  abbrev pub HasOutcomes : HeadView T → List Event → List Event → List (Option Outcome) → Type 0
  HasOutcomes h ys zs os = AreOutcomes h.failure h.buffer.is_full ys zs (length (state h.transport).accepted) (is_over h.standing) os

  -- a write would be idle: no flushed byte waits, or the head has failed by itself
  abbrev pub is_idle : HeadView T → List Event → Bool
  is_idle h ys = is_some h.failure || nat_le (length (out ys)) (length (state h.transport).accepted)

  -- The next read step is held: it is a burst, the channel is not writable, and a write would not be idle.
  abbrev pub is_read_held : ReadPlan → ℕ → HeadView T → List Event → Bool
  is_read_held p reads h ys = is_burst (bursts_read p) reads && h.buffer.is_unwritable && not (is_idle h ys)

-- This many read steps were made. A failure has closed their lane or not.
abbrev pub ReadsStand : {T : Type 0} → ReadPlan → ℕ → Bool → HeadView T → Type 0
ReadsStand p reads failed h = InputStands p reads failed h.input

-- a head that is to read one burst more
abbrev pub fed_head : {T : Type 0} → List Element → HeadView T → HeadView T
fed_head burst h = record h { input = fed_input burst h.input }

-- What a read step answers. One is left or not, and held or not.
abbrev pub read_answer : Bool → Bool → ReadStep
read_answer left held = if left then (if held then reads.Held else reads.Gave) else reads.Done

-- The lane of the head is over: an end or a failure has come. It came before a failure of the head's own or after it.
abbrev pub lane_over : {T : Type 0} → HeadView T → Bool
lane_over h = is_over h.standing || h.is_closed

-- what of its output is gone, and whether it has forgotten anything
abbrev pub gone_of : {T : Type 0} → HeadView T → ℕ × Bool
gone_of h = (h.gone, h.has_forgotten)

-- A head can forget some of what it took. Its lane is open, it has not failed by itself, no flushed message waits, and the
-- first write does not wait.
abbrev pub can_forget : {T : Type 0} → HeadView T → Bool
can_forget h = not (is_over h.standing || is_some h.failure) && can_forget_writes h.buffer

-- a lane enters the head
abbrev pub EntersHead : {T : Type 0} → HeadView T → Lane → Type 0
EntersHead h lane = lane ≡ data_lane h.channel h.hop

-- an event ran in a head that had not failed
abbrev pub is_ran : Took → Bool
is_ran took.Ran = true
is_ran took.Ended = false
is_ran (took.Failed c) = false
is_ran took.Dropped = false

-- What an item brings before the head has failed. It is its event, if it brings one that ran: one that did not run is
-- the failure.
abbrev pub events_before : Bool → Item → Took → List Event
events_before has_failed (item.Event e) answer = if not has_failed && is_ran answer then e ∷ [] else []
events_before has_failed item.End answer = []
events_before has_failed (item.Fail c) answer = []
events_before has_failed (item.Flag v) answer = []

-- what an item brings once the head has failed
abbrev pub events_from : Bool → Item → Took → List Event
events_from has_failed (item.Event e) answer = if not has_failed && is_ran answer then [] else e ∷ []
events_from has_failed item.End answer = []
events_from has_failed (item.Fail c) answer = []
events_from has_failed (item.Flag v) answer = []

-- The sizes that an item adds or removes. They are told by the bytes that waited before it and after: none where the
-- head has failed by itself, and all that waited where it fails by this item.
abbrev pub item_sizes : Bool → Item → Took → ℕ → ℕ → List Change
item_sizes has_failed (item.Event e) answer before after =
    if has_failed then [] else (if is_ran answer then event_sizes e before after else Removed before ∷ [])
item_sizes has_failed item.End answer before after = if has_failed then [] else Removed (before - after) ∷ []
item_sizes has_failed (item.Fail c) answer before after = if has_failed then [] else Removed (before - after) ∷ []
item_sizes has_failed (item.Flag v) answer before after = []

-- How an open lane stands after an item. A head that has failed by itself notes no end of it here.
abbrev pub standing_after : Bool → Item → Standing
standing_after has_failed (item.Event e) = standings.Open
standing_after has_failed item.End = if has_failed then standings.Open else standings.Ended
standing_after has_failed (item.Fail c) = if has_failed then standings.Open else standings.Failed c
standing_after has_failed (item.Flag v) = standings.Open

-- What a head answers to an item. Its lane is open: an event runs, or memory runs out for it where the head has not
-- failed before. (A flag does not stand on its lane, and nothing comes of it.)
abbrev pub Answers : Bool → Item → Took → Type 0
Answers has_failed (item.Event e) answer = (answer ≡ took.Ran) ⊎ ((answer ≡ took.Failed Memory) × (has_failed ≡ false))
Answers has_failed item.End answer = answer ≡ took.Ended
Answers has_failed (item.Fail c) answer = answer ≡ took.Failed c
Answers has_failed (item.Flag v) answer = answer ≡ took.Ran

-- the first cause stays
abbrev pub first_cause : Option Cause → Option Cause → Option Cause
first_cause (Some cause) later = Some cause
first_cause None later = later

-- why the head has failed, by its answer to an item
abbrev pub cause_of_item : Item → Took → Option Cause
cause_of_item (item.Event e) (took.Failed cause) = Some cause
cause_of_item (item.Event e) took.Ran = None
cause_of_item (item.Event e) took.Ended = None
cause_of_item (item.Event e) took.Dropped = None
cause_of_item item.End answer = None
cause_of_item (item.Fail c) answer = None
cause_of_item (item.Flag v) answer = None

-- why the head has failed, by this write
abbrev pub cause_of_step : OutStep → Option Cause
cause_of_step (step.Wrote n) = None
cause_of_step step.Idle = None
cause_of_step step.Failed = Some Transport

-- The sizes that a write to the transport removes. They are told by the bytes that waited before it and after: all
-- where it fails.
abbrev pub step_sizes : OutStep → ℕ → ℕ → List Change
step_sizes (step.Wrote n) before after = if n == 0 then [] else Removed (before - after) ∷ []
step_sizes step.Idle before after = []
step_sizes step.Failed before after = Removed before ∷ []

-- Why the head has failed. It has by itself, or else by the failure that it took.
abbrev pub head_cause : {T : Type 0} → HeadView T → Option Cause
head_cause h = first_cause h.failure (cause_of h.standing)

-- Flags are few: at most two for each item taken. One still to come is counted while the channel is not writable.
abbrev pub HasFewFlags : {T : Type 0} → HeadView T → Type 0
HasFewFlags h = h.buffer.flags.made + (if h.buffer.is_unwritable then 1 else 0) ≤ 2 * h.taken

-- A head that has not failed is aborted. It fails, which sends a flag where one is due, and then gives the failure to
-- the lane of its reads, where that is open.
pub record Aborts {T : Type 0} (state : T → TransportState) (h : HeadView T) (before : OutputsView) (h' : HeadView T) (after : OutputsView) : Type 0 where
  pub between : OutputsView
  pub stands : (ys zs : List Event) (sizes : List Change) → HeadStandsAfter state h ys zs sizes → HeadStandsAfter state h' ys zs (sizes ++ Removed (waiting_at state h ys) ∷ [])
  pub flags : (ys zs : List Event) (sizes : List Change) → HeadStandsAfter state h ys zs sizes
      → SendsFlags h.buffer.low h.buffer.high sizes (Removed (waiting_at state h ys) ∷ []) h.buffer.flags before h'.buffer.flags between
  pub puts : PutsAll between (offered h.input.port (item.Fail Aborted ∷ [])) after
  pub same : h' ≡ record h { failure = Some Aborted; buffer = h'.buffer; input = failed_input h.input }

-- what is true of every head
pub record IsHead (channel taken : ℕ) (failure : Option Cause) (is_closed : Bool) (b : OutboundBufferView) (input : InputView) : Type 0 where
  pub lane : b.flags.lane ≡ flags_lane channel 0
  pub entrance_is : input.port.lane ≡ entrance channel
  pub pending : b.pending ≤ taken * 2 ^ 64
  pub few : taken ≤ MAX_ITEMS
  pub few_flags : b.flags.made + (if b.is_unwritable then 1 else 0) ≤ 2 * taken
  pub numbering : failure ≡ None → b.is_full ≡ false
  pub closed : failure ≡ None → is_closed ≡ false
  pub nothing_flushed : IsSome failure → b.flushed ≡ 0
  pub settled : AreSettled b.settled b.outcomes
  pub told : b.told ≤ length b.settled
