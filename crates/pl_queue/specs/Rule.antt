-- The queue rule.
use Rattle.std.specs.Prelude.{◌≡◌, ◌+◌, ◌<◌, ◌^◌, ℕ, Bool, true, false, cond, List, [], ◌∷◌, length, Option, Some, None}
use mathlib.Core.Option.{some}
use lib.ListN.{get_elem?}
use Rattle.pl_event.specs.declared.envelopes.Lane.{Lane}
use Rattle.pl_event.specs.declared.envelopes.Envelope.{Envelope}
use Rattle.pl_event.specs.Hops.{same_lane}
use Rattle.pl_event.specs.Worlds.{World, FitsWorld, closes}
use Rattle.pl_queue.specs.declared.views.SenderView.{SenderView}
use Rattle.pl_queue.specs.declared.views.TakerView.{TakerView}
use Rattle.pl_queue.specs.declared.views.PassView.{PassView}
use Rattle.pl_queue.specs.Views.{sent_of, next_of}

-- the numbers of a lane's envelopes, in their order
abbrev pub numbers_of : Lane → List Envelope → List ℕ
numbers_of l [] = []
numbers_of l (x ∷ xs) = cond (same_lane l x.lane) (x.number ∷ numbers_of l xs) (numbers_of l xs)

-- these are the numbers from `from` up to, not including, `to`, in order
abbrev pub IsRun : ℕ → List ℕ → ℕ → Type 0
IsRun from [] to = from ≡ to
IsRun from (n ∷ ns) to = (n ≡ from) × IsRun (from + 1) ns to

-- each of a list is so
abbrev pub Each : {A : Type 0} → (A → Type 0) → List A → Type 0
Each P [] = Unit {0}
Each P (x ∷ xs) = P x × Each P xs

-- a queued envelope fits the world, its number is small, and where it is End or Fail it is the last of its lane
pub record IsQueued (world : World) (next : Lane → ℕ) (ended : Lane → Bool) (x : Envelope) : Type 0 where
  pub fits : FitsWorld world x
  pub small : x.number < 2 ^ 32
  pub last : closes x.item ≡ true → (ended x.lane ≡ true) × (next x.lane ≡ x.number + 1)

-- What a pass knows is so. `owner` says which pass sends on a lane, `next` and `ended` what was sent there; `taker` is the pass that takes, and `taken` its next numbers.
pub record PassStands (owner : Lane → Option ℕ) (next : Lane → ℕ) (ended : Lane → Bool) (taker : ℕ) (taken : Lane → ℕ) (pass : ℕ) (v : PassView) : Type 0 where
  pub sends : (l : Lane) (n : ℕ) (e : Bool) → sent_of l v.sends.send_counts ≡ Some (n, e) → (owner l ≡ Some pass) × (next l ≡ n) × (ended l ≡ e)
  pub takes : v.taker ≡ true → pass ≡ taker
  pub known : v.taker ≡ true → (l : Lane) (n : ℕ) → next_of l v.takes.counts ≡ Some n → taken l ≡ n
  pub rest : v.taker ≡ true → (l : Lane) → next_of l v.takes.counts ≡ None → (owner l ≡ None) × (next l ≡ 0) × (ended l ≡ false) × (taken l ≡ 0)

-- The queue rule: the queued numbers of each lane, from the front, are those from the taker's next up to its sender's next; each queued envelope fits; each lane has one sender.
pub record Keeps (world : World) (items : List Envelope) (views : List PassView) : Type 0 where
  pub owner : Lane → Option ℕ
  pub next : Lane → ℕ
  pub ended : Lane → Bool
  pub taker : ℕ
  pub taken : Lane → ℕ
  pub in_turn : (l : Lane) → IsRun (taken l) (numbers_of l items) (next l)
  pub queued : Each (IsQueued world next ended) items
  pub seats : (pass : ℕ) (v : PassView) → get_elem? views pass ≡ some v → PassStands owner next ended taker taken pass v

-- what a pop tells: the front is the taker's next of its lane, and fits
pub record IsTakersNext (world : World) (v : PassView) (x : Envelope) : Type 0 where
  pub fits : FitsWorld world x
  pub small : x.number < 2 ^ 32
  pub number : next_of x.lane v.takes.counts ≡ Some x.number
  pub last : closes x.item ≡ true → (n : ℕ) (e : Bool) → sent_of x.lane v.sends.send_counts ≡ Some (n, e) → n ≡ x.number + 1

-- What a sender learns of the queue: of its own lanes the last queued is the last sent. It is so at one moment, and
-- each envelope fits.
pub record SenderSees (world : World) (s : SenderView) (items : List Envelope) : Type 0 where
  pub fit : Each (FitsWorld world) items
  pub lanes : (l : Lane) (n : ℕ) (e : Bool) → sent_of l s.send_counts ≡ Some (n, e) → (from : ℕ) × IsRun from (numbers_of l items) n

-- What the taker learns of the queue: of each lane the first queued is the next. It is so at one moment, and each
-- envelope fits.
pub record TakerSees (world : World) (t : TakerView) (items : List Envelope) : Type 0 where
  pub fit : Each (FitsWorld world) items
  pub lanes : (l : Lane) (n : ℕ) → next_of l t.counts ≡ Some n → (to : ℕ) × IsRun n (numbers_of l items) to

-- what a taker that has joined the senders learns: of each lane the queue holds what was sent and not taken
pub record BothSee (world : World) (v : PassView) (items : List Envelope) : Type 0 where
  pub taker : TakerSees world v.takes items
  pub lanes : (l : Lane) (n m : ℕ) (e : Bool) → next_of l v.takes.counts ≡ Some n → sent_of l v.sends.send_counts ≡ Some (m, e) → IsRun n (numbers_of l items) m

-- at one moment of the call the queue held n envelopes, of which this was so
abbrev pub WasOnce : ℕ → (List Envelope → Type 0) → Type 0
WasOnce n fact = (items : List Envelope) × (length items ≡ n) × fact items
