-- The inboxes of three executors, and what each executor has of them before its first turn.
use Rattle.std.specs.Prelude.{◌≡◌, ◌==◌, ◌&&◌, ◌<◌, ℕ, cond, not, List, [], ◌∷◌, length, slice_get, Some}
use Rattle.pl_event.specs.declared.envelopes.Lane.{Lane}
use Rattle.pl_queue.specs.Ends.{MailboxEnds}
use Rattle.pl_queue.specs.Views.{fresh_sends, fresh_takes}
use Rattle.pl_words.specs.Admissions.{new_owner_seat, new_send_seat}
use Rattle.pl_outbox.specs.declared.inbox.Inbox.{Inbox}
use Rattle.pl_threads_tests.specs.Nodes.{IsFresh, NodeStands, lane_to}
use Rattle.pl_threads_tests.specs.declared.nodes.Node.{Node}
use Rattle.pl_threads_tests.specs.declared.nodes.Outlet.{Outlet}
use Rattle.pl_threads_tests.specs.declared.places.Own.{Own}
use Rattle.pl_threads_tests.specs.declared.places.Place.{Place}
use Rattle.pl_threads_tests.specs.declared.places.Places.{Places}
use Rattle.pl_threads_tests.specs.declared.places.Way.{Way}

-- Executor 2 makes flags for both others, and executor 0 for executor 2.
abbrev pub makes_for : ℕ → ℕ → List Lane
makes_for executor target = cond ((executor == 2) && not (target == 2)) (lane_to target ∷ []) (cond ((executor == 0) && (target == 2)) (lane_to target ∷ []) [])

module _ {W M S T : Type 0} (ends : MailboxEnds M S T) where
  -- A way to an inbox on these lanes. Nothing was sent, and nothing was admitted.
  pub record IsWay (inbox : Inbox W M S T) (lanes : List Lane) (way : Way W M S T) : Type 0 where
    pub sender : ends.is_sender inbox.mailbox way.sender
    pub sends : ends.sends_of way.sender ≡ fresh_sends lanes
    pub seat : way.seat ≡ new_send_seat inbox.admission.name way.seat.number

  -- The ends of an executor's inbox. Nothing was taken, and nothing was closed.
  pub record IsOwn (inbox : Inbox W M S T) (executor : ℕ) (own : Own W M S T) : Type 0 where
    pub taker : ends.is_taker inbox.mailbox own.taker
    pub takes : ends.takes_of own.taker ≡ fresh_takes (lane_to executor ∷ [])
    pub owner : own.owner ≡ new_owner_seat inbox.admission.name

  -- An executor's inbox, its ends, and the ways to it: by the first flags come, and by the others nothing.
  pub record IsOpened (executor : ℕ) (inbox : Inbox W M S T) (own_ends : Own W M S T) (writer second third : Way W M S T) : Type 0 where
    pub own : IsOwn inbox executor own_ends
    pub flags : IsWay inbox (lane_to executor ∷ []) writer
    pub none : IsWay inbox [] second
    pub never : IsWay inbox [] third

  -- What an executor has of the inboxes before its first turn.
  pub record IsPlace (inboxes : List (Inbox W M S T)) (executor : ℕ) (place : Place W M S T) : Type 0 where
    pub three : length inboxes ≡ 3
    pub there : executor < 3
    pub own : (inbox : Inbox W M S T) → slice_get inboxes executor ≡ Some inbox → IsOwn inbox executor place.own
    pub first : (inbox : Inbox W M S T) → slice_get inboxes 0 ≡ Some inbox → IsWay inbox (makes_for executor 0) place.first
    pub second : (inbox : Inbox W M S T) → slice_get inboxes 1 ≡ Some inbox → IsWay inbox (makes_for executor 1) place.second
    pub third : (inbox : Inbox W M S T) → slice_get inboxes 2 ≡ Some inbox → IsWay inbox (makes_for executor 2) place.third

  -- What executors 0, 1 and 2 have of them.
  pub record ArePlaces (inboxes : List (Inbox W M S T)) (places : Places W M S T) : Type 0 where
    pub of_first : IsPlace inboxes 0 places.first
    pub of_second : IsPlace inboxes 1 places.second
    pub of_third : IsPlace inboxes 2 places.third

-- where flags are made for an executor, it is one of the three, and there is a lane to it
abbrev pub HasLane : ℕ → Outlet → Type 0
HasLane executor o = 0 < o.count → (o.target < 3) × (makes_for executor o.target ≡ lane_to o.target ∷ [])

-- The nodes of one of the three executors: nothing was made, and nothing has come.
pub record IsReady (n : Node) : Type 0 where
  pub stands : NodeStands n
  pub fresh : IsFresh n
  pub first : HasLane n.executor n.first
  pub second : HasLane n.executor n.second
