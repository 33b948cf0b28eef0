-- A post, its seats and its owner, as contracts see them, and what a call does to a seat.
use Rattle.std.specs.Prelude.{◌≡◌, ◌≢◌, ◌+◌, ◌≤◌, ◌^◌, ℕ, List, [], ◌∷◌, length}
use Rattle.pl_event.specs.declared.envelopes.Envelope.{Envelope}
use Rattle.pl_event.specs.Worlds.{World}
use Rattle.pl_queue.specs.declared.limits.TheConstants.{MAX_LANES}
use Rattle.pl_queue.specs.declared.views.SenderView.{SenderView}
use Rattle.pl_queue.specs.declared.views.TakeCount.{TakeCount}
use Rattle.pl_queue.specs.declared.views.TakerView.{TakerView}
use Rattle.pl_queue.specs.Ends.{MailboxEnds}
use Rattle.pl_queue.specs.Room.{IsCounted}
use Rattle.pl_queue.specs.Rule.{SenderSees, WasOnce, Each}
use Rattle.pl_words.specs.declared.admission.Refused.TheVariants as refused
use Rattle.pl_words.specs.declared.status.Status.TheVariants.{Closed}
use Rattle.pl_words.specs.Admissions.{SendSeatView, OwnerSeatView, Admits, Refuses, less_one}
use Rattle.pl_words.specs.Names.{Name}
use Rattle.pl_words.specs.Phases.{rank}
use Rattle.pl_post.specs.declared.posts.Unsent.{Unsent}
use Rattle.pl_post.specs.declared.posts.Unsent.TheVariants as unsent

-- a post: its mailbox, and the name of its admission
pub record PostView (M : Type 0) : Type 0 where
  pub mailbox : M
  pub name : Name

-- a seat: the mailbox's sender, and the admission's seat
pub record PostSeatView (S : Type 0) : Type 0 where
  pub sender : S
  pub seat : SendSeatView

-- The owner of a post. It has the taker of the mailbox, the owner's seat of the admission, and how many envelopes
-- were taken.
pub record PostOwnerView (T : Type 0) : Type 0 where
  pub taker : T
  pub owner : OwnerSeatView
  pub taken : ℕ

module _ {M S T : Type 0} (ends : MailboxEnds M S T) where
  -- the post made this seat
  pub record IsSeatOf (p : PostView M) (s : PostSeatView S) : Type 0 where
    pub sender : ends.is_sender p.mailbox s.sender
    pub seat : s.seat.name ≡ p.name

  -- the post made this owner
  pub record IsOwnerOf (p : PostView M) (o : PostOwnerView T) : Type 0 where
    pub taker : ends.is_taker p.mailbox o.taker
    pub owner : o.owner.name ≡ p.name

-- ---- what holds between two calls

-- A seat has kept an admission for each envelope pushed. It has none for anything else.
pub record IsPostSeat (sends : SenderView) (seat : SendSeatView) : Type 0 where
  pub kept : seat.kept ≡ sends.pushes
  pub counted : IsCounted sends

-- how many envelopes were taken of these lanes
abbrev pub taken_on : List TakeCount → ℕ
taken_on [] = 0
taken_on (c ∷ cs) = c.next + taken_on cs

-- A taker's pops are those of its lanes, of which there are few, and each has at most 2^32.
pub record IsTakeCounted (t : TakerView) : Type 0 where
  pub pops : t.pops ≡ taken_on t.counts
  pub small : Each (λ c. c.next ≤ 2 ^ 32) t.counts
  pub few : length t.counts ≤ MAX_LANES

-- The owner counts what it takes, and closed with no more than that.
pub record IsOwner (takes : TakerView) (owner : OwnerSeatView) (taken : ℕ) : Type 0 where
  pub count : taken ≡ takes.pops
  pub counted : IsTakeCounted takes
  pub run : owner.phase ≡ Closed → owner.run ≤ takes.pops

-- ---- what a send does where nothing was sent

-- An admission was made and given up again, by a step each: `kept` is as it was, and `made` has risen by one. It is late
-- where the second step found the word closed.
pub record GivesUp (s t : SendSeatView) : Type 0 where
  pub between : SendSeatView
  pub admitted : Admits s between
  pub less : t ≡ less_one between t.seen
  pub later : rank between.seen ≤ rank t.seen
  pub kept : t.kept ≡ s.kept

-- the envelope that comes back
abbrev pub back_of : Unsent → Envelope
back_of (unsent.Full x) = x
back_of (unsent.Closed x) = x
back_of (unsent.Spent x) = x

-- Why nothing was sent: the queue was full, or there was no admission. The sender has sent this before. Where the
-- queue was full, the admission was given up.
abbrev pub Unsends : World → ℕ → SenderView → SendSeatView → Unsent → SendSeatView → Type 0
Unsends world capacity sends s (unsent.Full x) t = GivesUp s t × WasOnce capacity (SenderSees world sends)
Unsends world capacity sends s (unsent.Closed x) t = Refuses refused.Closed s t
Unsends world capacity sends s (unsent.Spent x) t = Refuses refused.SeatSpent s t
