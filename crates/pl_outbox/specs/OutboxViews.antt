-- What an executor made for others, and its right to it: what was sent to each, and what waits.
use Rattle.std.specs.Prelude.{◌≡◌, ◌≢◌, ◌↔◌, ℕ, ◌+◌, ◌<◌, ◌≤◌, ◌^◌, Bool, true, false, ◌||◌, ◌&&◌, ◌==◌, cond, List, [], ◌∷◌, ◌++◌, map, filter, find, position, remove, not, length, slice_get, get_or, sum_by, All, Option, Some, ◌-◌}
use Rattle.std.specs.Option.{option_map, option_map_or}
use Rattle.pl_event.specs.declared.envelopes.Envelope.{Envelope}
use Rattle.pl_event.specs.declared.envelopes.Lane.{Lane}
use Rattle.pl_event.specs.Hops.{same_lane}
use Rattle.pl_event.specs.Worlds.{World}
use Rattle.pl_context.specs.declared.added.Added.{Added}
use Rattle.pl_context.specs.declared.added.Added.TheVariants.{Last, Discarded}
use Rattle.pl_context.specs.Stops.{has_stopped}
use Rattle.pl_context.specs.OutputsViews.{added_items, stopped_after}
use Rattle.pl_context.specs.WaitingViews.{WaitingView, Entry, Holds, is_for, stops_for, room_for}
use Rattle.pl_queue.specs.declared.views.SenderView.{SenderView}
use Rattle.pl_queue.specs.Ends.{MailboxEnds}
use Rattle.pl_queue.specs.Rule.{SenderSees, WasOnce}
use Rattle.pl_queue.specs.Views.{after_offer}
use Rattle.pl_words.specs.declared.admission.Refused.{Refused}
use Rattle.pl_words.specs.declared.admission.TheConstants.{MAX_ADMISSIONS}
use Rattle.pl_words.specs.declared.status.Status.{Status}
use Rattle.pl_words.specs.declared.status.Status.TheVariants.{Accepting, Closing, Closed}
use Rattle.pl_words.specs.Admissions.{SendSeatView, AdmittedView, admitted_of, Refuses}
use Rattle.pl_flow.specs.Flows.{Point, nowhere, after, on, past}
use Rattle.pl_flow.specs.LanesViews.{KeepsPlaces}
use Rattle.pl_outbox.specs.Sent.{sent_at, AreBehind}
use Rattle.pl_outbox.specs.Tries.{is_tried}

-- The way to one executor (EventExecutor). It says what was sent there, and has the seat with the admissions.
pub record OutboxView : Type 0 where
  pub sends : SenderView
  pub seat : SendSeatView

-- The ways to executors (EventExecutor), by number; and by executor the number of the way to it. With them stand what waits
-- for these, each with its admission, and the ways whose queue the last `hand` found full.
pub record OutboxesView : Type 0 where
  pub outboxes : List OutboxView
  pub ways : List ℕ
  pub waiting : WaitingView AdmittedView
  pub tried : List ℕ

-- the way to an executor, by its number. Where there is none, no way has that
abbrev pub way_to : OutboxesView → ℕ → ℕ
way_to o executor = get_or o.ways executor (2 ^ 16 - 1)

-- an envelope that waits at a way, with its admission
abbrev pub entry_for : ℕ → AdmittedView → Envelope → Entry AdmittedView
entry_for way admitted x = record { target = way; envelope = x; token = admitted }

-- what waits at a way, the oldest first
abbrev pub waits_in : {A : Type 0} → WaitingView A → ℕ → List Envelope
waits_in w way = option_map_or (λ b. map (λ x. x.0) b.items) (slice_get w.targets way) []

-- the envelopes that wait at a way, in order
abbrev pub waits_for : OutboxesView → ℕ → List Envelope
waits_for o way = waits_in o.waiting way

-- what was sent by it
abbrev pub sends_for : OutboxesView → ℕ → Option SenderView
sends_for o way = option_map (λ b. b.sends) (slice_get o.outboxes way)

-- the last `hand` found a way's queue full
abbrev pub was_tried : OutboxesView → ℕ → Bool
was_tried o way = is_tried o.tried way

-- The way of the oldest entry that may go. It is among the ways whose queue the last `hand` did not find full.
abbrev pub oldest_untried : OutboxesView → List (Entry AdmittedView) → Option ℕ
oldest_untried o entries = option_map (λ e. e.target) (find (λ e. not (was_tried o e.target)) entries)

-- ---- how far a lane has come

abbrev pub sent_to : OutboxesView → ℕ → Lane → Point
sent_to o way l = option_map_or (λ b. sent_at b.sends.send_counts l) (slice_get o.outboxes way) nowhere

-- where a lane has come behind what waits at a way
abbrev pub reached : OutboxesView → ℕ → Lane → Point
reached o way l = past (sent_to o way l) (on l (waits_for o way))

-- the phase is closed
abbrev pub is_closed : Status → Bool
is_closed Accepting = false
is_closed Closing = false
is_closed Closed = true

-- a seat that gets no admission from now on: it has seen its target closed, or is spent
abbrev pub is_refused : SendSeatView → Bool
is_refused seat = is_closed seat.seen || (seat.made == MAX_ADMISSIONS)

abbrev pub refuses : OutboxesView → ℕ → Bool
refuses o way = option_map_or (λ b. is_refused b.seat) (slice_get o.outboxes way) true

-- some seat has seen its target closed
pub record SomeClosed (o : OutboxesView) : Type 0 where
  pub way : ℕ
  pub outbox : OutboxView
  pub is : slice_get o.outboxes way ≡ Some outbox
  pub closed : is_closed outbox.seat.seen ≡ true

-- the first seat that has seen its target closed
abbrev pub closed_seat : List OutboxView → Option SendSeatView
closed_seat outboxes = find (λ seat. is_closed seat.seen) (map (λ b. b.seat) outboxes)

-- Nothing more of a lane gets in for a way. It has stopped there, or the target refuses all.
abbrev pub is_cut : OutboxesView → ℕ → Lane → Bool
is_cut o way l = has_stopped (stops_for o.waiting way) l || refuses o way

-- ---- what holds between two calls

-- how many admissions all seats ever made
abbrev pub admissions : OutboxesView → ℕ
admissions o = sum_by (λ b. b.seat.made) o.outboxes

-- What waits at a way follows what was sent by it, and there is an admission for each of both.
pub record IsOutbox (world : World) (b : OutboxView) (entries : List (Entry AdmittedView)) : Type 0 where
  pub behind : AreBehind world b.sends.send_counts (map (λ e. e.envelope) entries)
  pub kept : b.seat.kept ≡ b.sends.pushes + length entries
  pub admitted : All (λ e. e.token ≡ admitted_of b.seat) entries
  pub made : b.seat.made ≤ MAX_ADMISSIONS

-- what waits at each way follows what was sent, each with its admission
pub record IsOutboxes (world : World) (o : OutboxesView) : Type 0 where
  pub entries : List (Entry AdmittedView)
  pub holds : Holds o.waiting entries
  pub each : (way : ℕ) (b : OutboxView) → slice_get o.outboxes way ≡ Some b → IsOutbox world b (filter (is_for way) entries)
  pub targets : length o.waiting.targets ≡ length o.outboxes
  pub added : o.waiting.added ≤ admissions o
  pub few : length o.outboxes < 2 ^ 16

-- ---- what a call does

-- An envelope was added for a way, or is refused. There was at most one admission, and nothing was sent. Where
-- more of a lane gets in, it did before, and has come behind the envelope.
pub record Adds (o : OutboxesView) (way : ℕ) (x : Envelope) (o' : OutboxesView) : Type 0 where
  pub count : length o'.outboxes ≡ length o.outboxes
  pub ways : o'.ways ≡ o.ways
  pub sends : (y : ℕ) → sends_for o' y ≡ sends_for o y
  pub tried : o'.tried ≡ o.tried
  pub others : (y : ℕ) → y ≢ way → (slice_get o'.outboxes y ≡ slice_get o.outboxes y) × (slice_get o'.waiting.targets y ≡ slice_get o.waiting.targets y)
  pub cut : (y : ℕ) (l : Lane) → is_cut o' y l ≡ false → is_cut o y l ≡ false
  pub reached : (y : ℕ) (l : Lane) → is_cut o' y l ≡ false → reached o' y l ≡ cond ((y == way) && same_lane l x.lane) (after x) (reached o y l)
  pub closed : SomeClosed o → SomeClosed o'
  pub made : admissions o' ≤ admissions o + 1
  pub placed : KeepsPlaces (x.lane ∷ []) (stops_for o.waiting way) (stops_for o'.waiting way)

-- What comes last at the way: the envelope, or what stands in for it. It is the youngest of all that wait. There
-- is nothing where its lane has stopped; and one admission more for what comes, and none for nothing.
pub record Comes (o : OutboxesView) (way : ℕ) (x : Envelope) (o' : OutboxesView) : Type 0 where
  pub answer : Added
  pub waits : waits_for o' way ≡ waits_for o way ++ added_items answer x
  pub stopped : stops_for o'.waiting way ≡ stopped_after answer (stops_for o.waiting way) x.lane
  pub discarded : (answer ≡ Discarded) ↔ (has_stopped (stops_for o.waiting way) x.lane ≡ true)
  pub last : has_stopped (stops_for o.waiting way) x.lane ≡ false → 0 < room_for o.waiting way → answer ≡ Last
  pub admitted : AdmittedView
  pub youngest : (entries : List (Entry AdmittedView)) → Holds o.waiting entries → Holds o'.waiting (entries ++ map (entry_for way admitted) (added_items answer x))

-- No envelope comes, for this reason (RejectedExecutionException).
pub record RefusedBy (o : OutboxesView) (way : ℕ) (refusal : Refused) (o' : OutboxesView) : Type 0 where
  pub waiting : o'.waiting ≡ o.waiting
  pub before : OutboxView
  pub was : slice_get o.outboxes way ≡ Some before
  pub outbox : OutboxView
  pub is : slice_get o'.outboxes way ≡ Some outbox
  pub seat : Refuses refusal before.seat outbox.seat

-- Nothing of a way has moved. What was sent by it is the same, and what waits.
pub record SameFor (o o' : OutboxesView) (y : ℕ) : Type 0 where
  pub waits : waits_for o' y ≡ waits_for o y
  pub sends : sends_for o' y ≡ sends_for o y

-- The first that waited at a way was sent. Nothing else was sent, and the others wait in the same order.
pub record Sends (o : OutboxesView) (way : ℕ) (o' : OutboxesView) : Type 0 where
  pub envelope : Envelope
  pub waits : waits_for o way ≡ envelope ∷ waits_for o' way
  pub sends : sends_for o' way ≡ option_map (λ s. after_offer s envelope) (sends_for o way)
  pub others : (y : ℕ) → y ≢ way → SameFor o o' y
  pub rest : (entries : List (Entry AdmittedView)) → Holds o.waiting entries → (i : ℕ) × (position (is_for way) entries ≡ Some i) × Holds o'.waiting (remove entries i)

-- What waits is the same list in the same order, and nothing was sent.
pub record KeepsAll (o o' : OutboxesView) : Type 0 where
  pub each : (y : ℕ) → SameFor o o' y
  pub holds : (entries : List (Entry AdmittedView)) → Holds o.waiting entries → Holds o'.waiting entries

module _ {M S T : Type 0} (ends : MailboxEnds M S T) (world : World) where
  -- The mailbox of a sender that has sent this was full at some moment of the call.
  pub record WasFull (sends : SenderView) : Type 0 where
    pub mailbox : M
    pub sender : S
    pub made : ends.is_sender mailbox sender
    pub sent : ends.sends_of sender ≡ sends
    pub once : WasOnce (ends.capacity_of mailbox) (SenderSees world sends)

-- Nothing was sent, and no queue was found full.
pub record SendsNothing (o o' : OutboxesView) : Type 0 where
  pub sends : (y : ℕ) → sends_for o' y ≡ sends_for o y
  pub tried : o'.tried ≡ o.tried

-- Each lane has come as far as before. Nothing was stopped, admitted or refused.
pub record Stays (o o' : OutboxesView) : Type 0 where
  pub count : length o'.outboxes ≡ length o.outboxes
  pub ways : o'.ways ≡ o.ways
  pub reached : (y : ℕ) (l : Lane) → reached o' y l ≡ reached o y l
  pub cut : (y : ℕ) (l : Lane) → is_cut o' y l ≡ is_cut o y l
  pub stops : (y : ℕ) → stops_for o'.waiting y ≡ stops_for o.waiting y
  pub closed : SomeClosed o → SomeClosed o'
  pub made : admissions o' ≡ admissions o

-- Nothing has changed, but which ways were tried.
pub record Forgets (o o' : OutboxesView) : Type 0 where
  pub waiting : o'.waiting ≡ o.waiting
  pub same : (y : ℕ) → SameFor o o' y
  pub stays : Stays o o'

-- an outbox by which nothing was sent
pub record IsNew (b : OutboxView) : Type 0 where
  pub made : b.seat.made ≡ 0
  pub kept : b.seat.kept ≡ 0
  pub pushes : b.sends.pushes ≡ 0
