-- What a head does with the next item of its lane, when it is fed, in a read step, in a write, and when it is aborted.
use Rattle.std.specs.Prelude.{◌≡◌, ◌≢◌, ◌↔◌, ℕ, ◌+◌, ◌≤◌, ◌++◌, ◌⊎◌, List, [], length, Bool, true, false, ◌||◌, ◌&&◌, is_some, Some, IsSome, None, min}
use Rattle.pl_event.specs.declared.elements.Element.{Element}
use Rattle.pl_event.specs.declared.events.Event.{Event}
use Rattle.pl_event.specs.declared.envelopes.Envelope.{Envelope}
use Rattle.pl_event.specs.declared.envelopes.Item.TheVariants as item
use Rattle.pl_event.specs.Worlds.{closes}
use Rattle.pl_event.specs.declared.outcomes.Cause.TheVariants.{Aborted}
use Rattle.pl_context.specs.declared.standing.Standing.TheVariants as standings
use Rattle.pl_context.specs.declared.standing.Took.{Took}
use Rattle.pl_context.specs.declared.standing.Took.TheVariants as took
use Rattle.pl_context.specs.OutputsViews.{OutputsView, PutsAll}
use Rattle.pl_context.specs.Ports.{numbered}
use Rattle.pl_head.specs.declared.inputs.ReadPlan.{ReadPlan}
use Rattle.pl_head.specs.declared.heads.OutStep.{OutStep}
use Rattle.pl_head.specs.declared.heads.OutStep.TheVariants as step
use Rattle.pl_head.specs.declared.heads.ReadStep.{ReadStep}
use Rattle.pl_head.specs.declared.heads.ReadStep.TheVariants as reading
use Rattle.pl_head.specs.Marks.{Change}
use Rattle.pl_head.specs.Writes.{HasLeft, bytes_offered, flushed_writes}
use Rattle.pl_head.specs.Buffers.{SameMarks, SettlesMore, StopsNumbers, LacksRoom, ForgetsWrites}
use Rattle.pl_head.specs.MarksStand.{SendsFlags}
use Rattle.pl_head.specs.Transports.{TransportState, drained, one_call_more, FailsNext}
use Rattle.pl_head.specs.ReadSteps.{entrance, bursts_read, has_step, read_items, brings_failure, brings_abort, next_step_items, steps_after}
use Rattle.pl_head.specs.InputStand.{InputFeeds}
use Rattle.pl_head.specs.HeadStand.{HeadView, fed_head, HeadStandsAfter, ReadsStand, Aborts, lane_over, Answers, read_answer, is_read_held, is_idle, waiting_at, events_before, events_from, item_sizes, step_sizes, standing_after, cause_of_item, cause_of_step, first_cause, HasFewFlags}

-- A head is fed a burst. It is to read that one more, and its reads stand by the plan with it.
pub record HeadFeeds {T : Type 0} (burst : List Element) (h h' : HeadView T) : Type 0 where
  pub fed : h' ≡ fed_head burst h
  pub reads : InputFeeds burst h.input h'.input

module _ {T : Type 0} (state : T → TransportState) where
  -- It takes the next item of its lane: after whichever events it stood, it stands after those and what the item brought. After
  -- an end or a failure of that lane, which one that has failed by itself notes too, it only counts.
  pub record HeadTakes (h : HeadView T) (e : Envelope) (before : OutputsView) (answer : Took) (h' : HeadView T) (after : OutputsView) : Type 0 where
    pub taken : h'.taken ≡ h.taken + 1
    pub answers : lane_over h ≡ false → Answers (is_some h.failure) e.item answer
    pub stood : lane_over h ≡ false → (ys zs : List Event) (sizes : List Change) → HeadStandsAfter state h ys zs sizes
        → HeadStandsAfter state h' (ys ++ events_before (is_some h.failure) e.item answer) (zs ++ events_from (is_some h.failure) e.item answer)
        (sizes ++ item_sizes (is_some h.failure) e.item answer (waiting_at state h ys) (waiting_at state h' (ys ++ events_before (is_some h.failure) e.item answer)))
    pub flags : lane_over h ≡ false → (ys zs : List Event) (sizes : List Change) → HeadStandsAfter state h ys zs sizes
        → SendsFlags h.buffer.low h.buffer.high sizes
        (item_sizes (is_some h.failure) e.item answer (waiting_at state h ys) (waiting_at state h' (ys ++ events_before (is_some h.failure) e.item answer)))
        h.buffer.flags before h'.buffer.flags after
    pub refused : h.standing ≡ standings.Open → (event : Event) → e.item ≡ item.Event event → answer ≢ took.Ran → LacksRoom event h.buffer
    pub stops : StopsNumbers h.buffer h'.buffer
    pub failure : h.standing ≡ standings.Open → h'.failure ≡ first_cause h.failure (cause_of_item e.item answer)
    pub standing : h.standing ≡ standings.Open → h'.standing ≡ standing_after (is_some h.failure) e.item
    pub closed : lane_over h ≡ false → h'.is_closed ≡ (is_some h.failure && closes e.item)
    pub over : lane_over h ≡ true → (answer ≡ took.Ran) × (h' ≡ record h { taken = h'.taken }) × (after ≡ before)
    pub same : h' ≡ record h { taken = h'.taken; standing = h'.standing; failure = h'.failure; is_closed = h'.is_closed; buffer = h'.buffer }
    pub marks : SameMarks h.buffer h'.buffer
    pub settles : SettlesMore h.buffer h'.buffer
    pub few : HasFewFlags h'

  -- It makes its next read step, where one is left and not held, whichever steps were made.
  pub record HeadReads (h : HeadView T) (before : OutputsView) (answer : ReadStep) (h' : HeadView T) (after : OutputsView) : Type 0 where
    pub done : (p : ReadPlan) (reads : ℕ) (failed : Bool) → ReadsStand p reads failed h → (answer ≡ reading.Done) ↔ (has_step p reads failed ≡ false)
    pub answers : (p : ReadPlan) (reads : ℕ) (failed : Bool) (ys zs : List Event) (sizes : List Change) → ReadsStand p reads failed h → HeadStandsAfter state h ys zs sizes
        → answer ≡ read_answer (has_step p reads failed) (is_read_held state p reads h ys)
    pub never_held : IsSome h.failure → answer ≢ reading.Held
    pub is_left : (answer ≡ reading.Done) ↔ (h.input.port.is_open ≡ false)
    pub idle : answer ≢ reading.Gave → (h' ≡ h) × (after ≡ before)
    pub reads : answer ≡ reading.Gave → (p : ReadPlan) (reads : ℕ) (failed : Bool) → ReadsStand p reads failed h
        → ReadsStand p (steps_after p reads h.failure) (brings_failure p reads h.failure) h'
    pub puts : answer ≡ reading.Gave → (p : ReadPlan) (reads : ℕ) (failed : Bool) → ReadsStand p reads failed h → brings_abort p reads h.failure ≡ false
        → PutsAll before (numbered (entrance h.channel) (read_items (bursts_read p) reads) (next_step_items p reads h.failure)) after
    pub same : answer ≡ reading.Gave → (p : ReadPlan) (reads : ℕ) (failed : Bool) → ReadsStand p reads failed h → brings_abort p reads h.failure ≡ false
        → h' ≡ record h { input = h'.input }
    pub entrance_stays : h'.input.port.lane ≡ h.input.port.lane
    pub aborts : answer ≡ reading.Gave → (p : ReadPlan) (reads : ℕ) (failed : Bool) → ReadsStand p reads failed h → brings_abort p reads h.failure ≡ true
        → Aborts state h before h' after
    pub numbering : h'.buffer.is_full ≡ h.buffer.is_full
    pub marks : SameMarks h.buffer h'.buffer
    pub settles : SettlesMore h.buffer h'.buffer
    pub few : HasFewFlags h'

  -- It makes one write to its transport, unless it is idle. The write fails at the call that the transport was told to fail at,
  -- and else only where the transport may refuse what it is offered.
  pub record HeadWrites (may_refuse : T → ℕ → Type 0) (h : HeadView T) (before : OutputsView) (answer : OutStep) (h' : HeadView T) (after : OutputsView) : Type 0 where
    pub called : answer ≢ step.Idle → (state h'.transport).calls ≡ one_call_more (state h.transport).calls
    pub idle : answer ≡ step.Idle → (h' ≡ h) × (after ≡ before)
    pub wrote : (n : ℕ) → answer ≡ step.Wrote n → length (state h'.transport).accepted ≡ length (state h.transport).accepted + n
    pub sound : (n : ℕ) → answer ≡ step.Wrote n → (state h'.transport).failures ≡ (state h.transport).failures
    pub failed : answer ≡ step.Failed → (state h'.transport).failures ≡ one_call_more (state h.transport).failures
    pub kept : answer ≡ step.Failed → (state h'.transport).accepted ≡ (state h.transport).accepted
    pub nothing : answer ≡ step.Wrote 0 → (h'.buffer ≡ h.buffer) × (after ≡ before)
    pub window : (state h'.transport).window ≡ (state h.transport).window
    pub fail_at : (state h'.transport).fail_at ≡ (state h.transport).fail_at
    pub within : (n : ℕ) (ys zs : List Event) (sizes : List Change) → answer ≡ step.Wrote n → HeadStandsAfter state h ys zs sizes
        → n ≤ bytes_offered 0 (length (state h.transport).accepted) (flushed_writes ys)
    pub full : (n w : ℕ) (ys zs : List Event) (sizes : List Change) → answer ≡ step.Wrote n → HeadStandsAfter state h ys zs sizes
        → (state h.transport).window ≡ Some w → n ≡ min (bytes_offered 0 (length (state h.transport).accepted) (flushed_writes ys)) w
    pub fails_there : (n : ℕ) → answer ≡ step.Wrote n → FailsNext (state h.transport) → ⊥
    pub fails_else : (ys zs : List Event) (sizes : List Change) → answer ≡ step.Failed → HeadStandsAfter state h ys zs sizes
        → FailsNext (state h.transport) ⊎ may_refuse h.transport (bytes_offered 0 (length (state h.transport).accepted) (flushed_writes ys))
    pub waits : (ys zs : List Event) (sizes : List Change) → HeadStandsAfter state h ys zs sizes → (answer ≡ step.Idle) ↔ (is_idle state h ys ≡ true)
    pub rests : IsSome h.failure → answer ≡ step.Idle
    pub stood : (ys zs : List Event) (sizes : List Change) → HeadStandsAfter state h ys zs sizes
        → HeadStandsAfter state h' ys zs (sizes ++ step_sizes answer (waiting_at state h ys) (waiting_at state h' ys))
    pub flags : (ys zs : List Event) (sizes : List Change) → HeadStandsAfter state h ys zs sizes
        → SendsFlags h.buffer.low h.buffer.high sizes (step_sizes answer (waiting_at state h ys) (waiting_at state h' ys)) h.buffer.flags before h'.buffer.flags after
    pub failure : h'.failure ≡ first_cause h.failure (cause_of_step answer)
    pub same : h' ≡ record h { transport = h'.transport; failure = h'.failure; buffer = h'.buffer }
    pub numbering : h'.buffer.is_full ≡ h.buffer.is_full
    pub marks : SameMarks h.buffer h'.buffer
    pub settles : SettlesMore h.buffer h'.buffer
    pub few : HasFewFlags h'

  -- It is aborted, unless it has failed by itself.
  pub record HeadAborts (h : HeadView T) (before : OutputsView) (h' : HeadView T) (after : OutputsView) : Type 0 where
    pub aborts : h.failure ≡ None → Aborts state h before h' after
    pub reads : h.failure ≡ None → (p : ReadPlan) (reads : ℕ) (failed : Bool) → ReadsStand p reads failed h → ReadsStand p reads (h.input.port.is_open || failed) h'
    pub failed : IsSome h.failure → (h' ≡ h) × (after ≡ before)
    pub failure : h'.failure ≡ first_cause h.failure (Some Aborted)
    pub numbering : h'.buffer.is_full ≡ h.buffer.is_full
    pub marks : SameMarks h.buffer h'.buffer
    pub settles : SettlesMore h.buffer h'.buffer
    pub few : HasFewFlags h'

  -- It forgets what it took before the first write that waits. No byte of that waits, and what was accepted of it has left its
  -- transport; from here on it stands as one that has taken the rest alone. Its marks, its flags and its reads are as they were.
  pub record HeadForgets (h h' : HeadView T) : Type 0 where
    pub stood : (ys zs : List Event) (sizes : List Change) → HeadStandsAfter state h ys zs sizes
        → (zs ≡ []) × (first left : List Event) × (first ++ left ≡ ys) × HasLeft (state h.transport).accepted first × HeadStandsAfter state h' left [] sizes
    pub unfailed : h.failure ≡ None
    pub is_open : lane_over h ≡ false
    pub transport : state h'.transport ≡ drained (state h.transport)
    pub writes : ForgetsWrites h.buffer h'.buffer
    pub gone : h'.gone ≡ h.gone + length (state h.transport).accepted
    pub same : h' ≡ record h { transport = h'.transport; buffer = h'.buffer; gone = h'.gone; has_forgotten = true }
