-- The words of a session's channels, the seats on them, and what each call does to a seat.
use Rattle.std.specs.Prelude.{◌≡◌, ◌⊎◌, ℕ, ◌+◌, ◌<◌, ◌≤◌, Bool, List, [], ◌∷◌, ◌++◌, All, length, map, slice_get, slice_set, Option, Some, None, if◌then◌else◌}
use Rattle.pl_event.specs.declared.outcomes.Outcome.{Outcome}
use Rattle.pl_words.specs.declared.watermark.Mark.{Mark}
use Rattle.pl_words.specs.Names.{Name}
use Rattle.pl_words.specs.PromiseRule.{at}
use Rattle.pl_words.specs.PromiseViews.{SettleSeatView, ReadSeatView as PromiseSeatView, Meets, Peeks, Settles, new_settler, new_reader as new_promise_seat}
use Rattle.pl_words.specs.Watermarks.{HeadSeatView, ReadSeatView as MarkSeatView, Looks, is_news, new_head_seat, new_reader as new_mark_seat}
use Rattle.pl_world.specs.declared.session.Recorded.{Recorded}
use Rattle.pl_exec.specs.declared.words.TheConstants.{PROMISES}
use Rattle.pl_exec.specs.Adding.{each_with}

-- which mark and which promises a channel has
pub record ChannelNames : Type 0 where
  pub mark : Name
  pub promises : Name

-- The seats by which a channel's words are changed. They are its head's, and that of its only settler.
pub record SeatsView : Type 0 where
  pub mark : HeadSeatView
  pub settle : SettleSeatView

-- the seats by which a reader sees a channel's words
pub record SightView : Type 0 where
  pub mark : MarkSeatView
  pub promises : PromiseSeatView

abbrev pub seats_names : SeatsView → ChannelNames
seats_names s = record { mark = s.mark.name; promises = s.settle.name }

abbrev pub sight_names : SightView → ChannelNames
sight_names s = record { mark = s.mark.name; promises = s.promises.name }

-- these are the seats of that channel
abbrev pub AreSeatsOf : List ChannelNames → ℕ → SeatsView → Type 0
AreSeatsOf words channel seats = slice_get words channel ≡ Some (seats_names seats)

-- these are the heads' seats of each channel
abbrev pub AreHeadSeatsOf : List ChannelNames → List SeatsView → Type 0
AreHeadSeatsOf words heads = map seats_names heads ≡ words

-- the two marks, of seats and of a channel
abbrev pub seats_marks : SeatsView → ℕ × ℕ
seats_marks s = (s.mark.low, s.mark.high)

abbrev pub recorded_marks : {S T : Type 0} → Recorded S T → ℕ × ℕ
recorded_marks c = (c.pipeline.low, c.pipeline.high)

-- the seats have the marks of these channels, in order
abbrev pub HaveMarksOf : {S T : Type 0} → List SeatsView → List (Recorded S T) → Type 0
HaveMarksOf heads channels = map seats_marks heads ≡ map recorded_marks channels

-- The reader was made with these words. It has seats of each channel, in order.
abbrev pub IsReaderOf : List ChannelNames → List SightView → Type 0
IsReaderOf words reader = map sight_names reader ≡ words

-- ---- new words

-- the seats of a channel with these marks whose words nobody has changed
abbrev pub new_seats : ChannelNames → ℕ → ℕ → SeatsView
new_seats names low high = record { mark = new_head_seat names.mark low high; settle = new_settler names.promises PROMISES 1 }

-- nobody has used these seats
abbrev pub IsUnused : SeatsView → Type 0
IsUnused s = s ≡ new_seats (seats_names s) s.mark.low s.mark.high

-- nobody has used any of these seats
abbrev pub AreUnused : List SeatsView → Type 0
AreUnused heads = All IsUnused heads

-- Seats on the words of a channel, with its marks, that nobody has used.
pub record IsNewlySeated (words : List ChannelNames) (marks : List (ℕ × ℕ)) (c : ℕ) (s : SeatsView) : Type 0 where
  pub own : AreSeatsOf words c s
  pub marked : slice_get marks c ≡ Some (seats_marks s)
  pub unused : IsUnused s

-- By channel such seats on its words, or none.
pub record AreNewlySeated (words : List ChannelNames) (marks : List (ℕ × ℕ)) (seats : List (Option SeatsView)) : Type 0 where
  pub count : length seats ≡ length marks
  pub each : (c : ℕ) (s : SeatsView) → slice_get seats c ≡ Some (Some s) → IsNewlySeated words marks c s

-- the heads' seats of words that nobody has changed
abbrev pub new_head_seats : {S T : Type 0} → List ChannelNames → List (Recorded S T) → List SeatsView
new_head_seats [] channels = []
new_head_seats (names ∷ words) [] = []
new_head_seats (names ∷ words) (c ∷ channels) = new_seats names c.pipeline.low c.pipeline.high ∷ new_head_seats words channels

-- a reader's seats of a channel of which it has seen nothing
abbrev pub new_sight : ChannelNames → SightView
new_sight names = record { mark = new_mark_seat names.mark; promises = new_promise_seat names.promises PROMISES }

-- a reader's seats, which have seen nothing
abbrev pub new_sights : List ChannelNames → List SightView
new_sights words = map new_sight words

-- the seats of one channel more
abbrev pub with_sight : List SightView → SightView → List SightView
with_sight reader sight = reader ++ sight ∷ []

-- so for each reader
abbrev pub with_sights : List (List SightView) → List SightView → List (List SightView)
with_sights readers row = each_with with_sight readers row

-- ---- calls

-- the head's seat once the mark was set to what is pending, and to whether the channel is unwritable
abbrev pub with_mark : HeadSeatView → ℕ → Bool → HeadSeatView
with_mark s pending unwritable = if is_news s pending unwritable then record s { sets = s.sets + 1; pending = pending; unwritable = unwritable } else s

-- One look at a channel's mark (Channel.isWritable). It is by the reader's seat of that channel. The other seats
-- stay.
pub record LooksAt (before : List SightView) (channel : ℕ) (mark : Mark) (after : List SightView) : Type 0 where
  pub sight : SightView
  pub seen : MarkSeatView
  pub there : slice_get before channel ≡ Some sight
  pub looks : Looks sight.mark seen
  pub found : (mark.version ≡ seen.version) × (mark.unwritable ≡ seen.unwritable)
  pub others : after ≡ slice_set before channel (record sight { mark = seen })

-- One look at a channel's promise n (ChannelPromise). It is by the reader's seat of that channel, which finds again
-- what it has seen. The other seats stay.
pub record PeeksAt (before : List SightView) (channel n : ℕ) (found : Option Outcome) (after : List SightView) : Type 0 where
  pub sight : SightView
  pub seen : PromiseSeatView
  pub there : slice_get before channel ≡ Some sight
  pub peeks : Peeks sight.promises n found seen
  pub again : (outcome : Outcome) → at sight.promises.seen n ≡ Some outcome → found ≡ Some outcome
  pub others : after ≡ slice_set before channel (record sight { promises = seen })

-- One step tried to settle write n so: where the seat had not settled it, it has now; else it found how it stands. A void write
-- keeps nothing.
pub record Tries (before : SettleSeatView) (n : ℕ) (outcome : Outcome) (after : SettleSeatView) : Type 0 where
  pub first : n < PROMISES → at before.settled n ≡ None → Settles before n outcome after
  pub tried : n < PROMISES → Settles before n outcome after ⊎ ((found : Outcome) × Meets before n found after)
  pub void : PROMISES ≤ n → after ≡ before

-- So for each of these writes, one after another, as it ended by these outcomes: a step for each, and no others.
abbrev pub TriesEach : List (Option Outcome) → List ℕ → SettleSeatView → SettleSeatView → Type 0
TriesEach outcomes [] before after = after ≡ before
TriesEach outcomes (n ∷ ns) before after = (outcome : Outcome) × (next : SettleSeatView) × (at outcomes n ≡ Some outcome) × Tries before n outcome next × TriesEach outcomes ns next after
