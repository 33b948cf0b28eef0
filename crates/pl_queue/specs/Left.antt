-- What is left in a mailbox at its end.
use Rattle.std.specs.Global.{Vec}
use Rattle.std.specs.Prelude.{◌≡◌, ◌+◌, ℕ, Bool, true, false, cond, List, [], ◌∷◌, ◌++◌, length, map, Some}
use Rattle.pl_event.specs.declared.envelopes.Lane.{Lane}
use Rattle.pl_event.specs.declared.envelopes.Envelope.{Envelope}
use Rattle.pl_event.specs.Hops.{same_lane}
use Rattle.pl_event.specs.Worlds.{World, FitsWorld, closes}
use Rattle.pl_queue.specs.declared.views.SendCount.{SendCount}
use Rattle.pl_queue.specs.declared.views.TakeCount.{TakeCount}
use Rattle.pl_queue.specs.declared.views.SenderView.{SenderView}
use Rattle.pl_queue.specs.declared.views.PassView.{PassView}
use Rattle.pl_queue.specs.declared.left.LaneLeft.{LaneLeft}
use Rattle.pl_queue.specs.Views.{take_count, sent_of, next_of, lanes_of_counts}
use Rattle.pl_queue.specs.Positions.{ArePositions}
use Rattle.pl_queue.specs.Rule.{IsRun, Each}

-- an entry, with the list of its envelopes
pub record LaneLeftView : Type 0 where
  pub lane : Lane
  pub handed : ℕ
  pub taken : ℕ
  pub left : List Envelope

abbrev pub held : Lane → ℕ → ℕ → List Envelope → LaneLeftView
held l h t xs = record { lane = l; handed = h; taken = t; left = xs }

-- an entry as contracts see it, with its envelopes
abbrev pub held_of : LaneLeft → LaneLeftView
held_of e = held e.lane e.handed e.taken e.left.items

abbrev pub unheld : TakeCount → LaneLeftView
unheld m = held m.lane m.next m.next []

abbrev pub put_held : Envelope → List LaneLeftView → List LaneLeftView
put_held x [] = []
put_held x (h ∷ hs) = cond (same_lane x.lane h.lane) (held h.lane (x.number + 1) h.taken (h.left ++ x ∷ []) ∷ hs) (h ∷ put_held x hs)

abbrev pub taken_count : LaneLeftView → TakeCount
taken_count h = take_count h.lane h.taken

abbrev pub handed_count : LaneLeftView → TakeCount
handed_count h = take_count h.lane h.handed

-- the lanes of entries
abbrev pub lanes_left : List LaneLeftView → List Lane
lanes_left hs = map (λ h. h.lane) hs

-- the counts of all senders
abbrev pub send_counts_of : List SenderView → List SendCount
send_counts_of [] = []
send_counts_of (s ∷ ss) = s.send_counts ++ send_counts_of ss

-- an envelope left of a lane, of which `handed` were handed: it fits, and nothing was handed after End or Fail
pub record IsLeft (world : World) (l : Lane) (handed : ℕ) (x : Envelope) : Type 0 where
  pub lane : x.lane ≡ l
  pub fits : FitsWorld world x
  pub last : closes x.item ≡ true → handed ≡ x.number + 1

-- handed is taken and left; and left are the numbers from taken on, in order, which fit
pub record IsEntry (world : World) (send_counts : List SendCount) (h : LaneLeftView) : Type 0 where
  pub handed : (e : Bool) × (sent_of h.lane send_counts ≡ Some (h.handed, e))
  pub count : h.handed ≡ h.taken + length h.left
  pub run : IsRun h.taken (map (λ x. x.number) h.left) h.handed
  pub left : Each (IsLeft world h.lane h.handed) h.left

-- the same while the queue is being emptied
pub record IsLeftSoFar (world : World) (send_counts : List SendCount) (l : Lane) (x : Envelope) : Type 0 where
  pub lane : x.lane ≡ l
  pub fits : FitsWorld world x
  pub last : closes x.item ≡ true → (n : ℕ) (e : Bool) → sent_of x.lane send_counts ≡ Some (n, e) → n ≡ x.number + 1

pub record IsEntrySoFar (world : World) (send_counts : List SendCount) (h : LaneLeftView) : Type 0 where
  pub run : IsRun h.taken (map (λ x. x.number) h.left) h.handed
  pub left : Each (IsLeftSoFar world send_counts h.lane) h.left

-- no lane stands twice
abbrev pub Apart : List Lane → Type 0
Apart [] = Unit {0}
Apart (l ∷ ls) = Each (λ m. same_lane l m ≡ false) ls × Apart ls

-- the lanes of all senders, one after another
abbrev pub lanes_of_senders : List (List Lane) → List Lane
lanes_of_senders [] = []
lanes_of_senders (ls ∷ lss) = ls ++ lanes_of_senders lss

abbrev pub own_lanes : Vec Lane → List Lane
own_lanes v = v.items

-- a taker's table has its next numbers, and no lane twice; its rows say where each stands. It sends on no lane
pub record KnowsPlaces (v : PassView) (counts : List TakeCount) (rows : List (Vec ℕ)) : Type 0 where
  pub taker : v.taker ≡ true
  pub send_counts : v.sends.send_counts ≡ []
  pub counts_are : counts ≡ v.takes.counts
  pub apart : Apart (lanes_of_counts v.takes.counts)
  pub positions : ArePositions rows 0 (lanes_of_counts v.takes.counts)

-- each lane of the taker's is some sender's
abbrev pub AreAll : List SendCount → List TakeCount → Type 0
AreAll send_counts counts = (l : Lane) (n : ℕ) → next_of l counts ≡ Some n → (m : ℕ) × (e : Bool) × (sent_of l send_counts ≡ Some (m, e))

-- while a queue is emptied: the taker has these send_counts of the senders, and the entries have what it has taken since
pub record IsEmptying (world : World) (send_counts : List SendCount) (first : List TakeCount) (v : PassView) (hs : List LaneLeftView) : Type 0 where
  pub taker : v.taker ≡ true
  pub send_counts_are : v.sends.send_counts ≡ send_counts
  pub handed : map handed_count hs ≡ v.takes.counts
  pub taken : map taken_count hs ≡ first
  pub entries : Each (IsEntrySoFar world send_counts) hs

-- the mailbox account: what is left, by what senders and taker count
pub record IsAllLeft (world : World) (send_counts : List SendCount) (counts : List TakeCount) (hs : List LaneLeftView) : Type 0 where
  pub taken : map taken_count hs ≡ counts
  pub entries : Each (IsEntry world send_counts) hs
