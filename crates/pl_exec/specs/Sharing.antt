-- The nodes of all channels, each at its executor.
use Rattle.std.specs.Global.{Vec}
use Rattle.std.specs.Prelude.{◌≡◌, ◌≢◌, ℕ, ◌<◌, ◌==◌, false, List, [], ◌∷◌, ◌++◌, All, length, map, cond, get_or, slice_get, true, Option, Some, is_some}
use Rattle.std.specs.Set.{is_member}
use Rattle.pl_event.specs.declared.events.Event.{Event}
use Rattle.pl_event.specs.Meaning.{Meaning}
use Rattle.pl_head.specs.Transports.{TransportState}
use Rattle.pl_part.specs.Parts.{ChannelPartView}
use Rattle.pl_part.specs.Shares.{IsShare, IsShareOf, only_if}
use Rattle.pl_exec.specs.declared.nodes.ExecutorNodes.{ExecutorNodes}
use Rattle.pl_exec.specs.ExecutorNodes.{AreInOrder, heads_of, numbered_from}
use Rattle.pl_exec.specs.SessionWords.{ChannelNames, SeatsView}

-- The parts of an executor, by channel: each is its share of that channel.
pub record AreSharesOf {S T : Type 0} (meaning : S → Meaning) (stands_after : S → List Event → Type 0) (state : T → TransportState) (wholes : List (ChannelPartView S T)) (x : ℕ) (parts : List (ChannelPartView S T)) : Type 0 where
  pub count : length parts ≡ length wholes
  pub each : (c : ℕ) (whole share : ChannelPartView S T) → slice_get wholes c ≡ Some whole → slice_get parts c ≡ Some share → IsShareOf meaning stands_after state (λ e. e == x) whole share

-- By channel the seats that there are for it, where its head is one of these nodes, and else none.
pub record AreDealt {S T : Type 0} (heads : List (Option SeatsView)) (ps : List (ChannelPartView S T)) (seats : List (Option SeatsView)) : Type 0 where
  pub count : length seats ≡ length heads
  pub each : (c : ℕ) (s : Option SeatsView) (p : ChannelPartView S T) (slot : Option SeatsView) → slice_get heads c ≡ Some s → slice_get ps c ≡ Some p → slice_get seats c ≡ Some slot → slot ≡ only_if (is_some p.head) s

module _ {S T : Type 0} (meaning : S → Meaning) (stands_after : S → List Event → Type 0) (state : T → TransportState) (wholes : List (ChannelPartView S T)) (words : List ChannelNames) (heads : List (Option SeatsView)) where
  -- Of a channel an executor has its share, and the seats of the head, where it has that.
  pub record HasShare (x c : ℕ) (share : ChannelPartView S T) (slot : Option SeatsView) : Type 0 where
    pub whole : ChannelPartView S T
    pub whole_at : slice_get wholes c ≡ Some whole
    pub is : IsShareOf meaning stands_after state (λ e. e == x) whole share
    pub own : Option SeatsView
    pub own_at : slice_get heads c ≡ Some own
    pub seats : slot ≡ only_if (is_some share.head) own

  -- The nodes of an executor are its shares of the channels in a row, with these words and the seats of their heads, and nothing
  -- was refused.
  pub record HasShares (x : ℕ) (row : List ℕ) (nodes : ExecutorNodes S T) : Type 0 where
    pub number : nodes.number ≡ x
    pub unrefused : nodes.was_refused ≡ false
    pub words_are : nodes.words.now ≡ words
    pub here : nodes.here.items ≡ row
    pub in_order : AreInOrder (length wholes) nodes
    pub each : (k : ℕ) (share : ChannelPartView S T) (slot : Option SeatsView) → slice_get nodes.parts.items k ≡ Some share → slice_get nodes.seats.items k ≡ Some slot → HasShare x (get_or row k 0) share slot
    pub own : nodes.heads.items ≡ heads_of nodes.parts.items

  -- So it is with each executor, by its row.
  pub record AreShared (rows : List (List ℕ)) (all : List (ExecutorNodes S T)) : Type 0 where
    pub count : length all ≡ length rows
    pub each : (x : ℕ) (nodes : ExecutorNodes S T) (row : List ℕ) → slice_get all x ≡ Some nodes → slice_get rows x ≡ Some row → HasShares x row nodes

-- ---- what an executor leaves

module _ {S T : Type 0} where
  -- When an executor has taken its share of a channel, those of the others are as they were; and where the head is left, so are
  -- its seats.
  pub record IsRestOf (x : ℕ) (before after : ChannelPartView S T) (slot slot' : Option SeatsView) : Type 0 where
    pub shares : (e : ℕ) (share : ChannelPartView S T) → e ≢ x → IsShare e after share → IsShare e before share
    pub seats : is_some after.head ≡ true → (is_some before.head ≡ true) × (slot' ≡ slot)

  -- So it is with each of all channels.
  pub record AreRests (x : ℕ) (before : List (ChannelPartView S T)) (seats : List (Option SeatsView)) (after : List (ChannelPartView S T)) (seats' : List (Option SeatsView)) : Type 0 where
    pub parts_count : length after ≡ length before
    pub seats_count : length seats' ≡ length seats
    pub each : (c : ℕ) (p p' : ChannelPartView S T) (slot slot' : Option SeatsView) → slice_get before c ≡ Some p → slice_get seats c ≡ Some slot → slice_get after c ≡ Some p' → slice_get seats' c ≡ Some slot' → IsRestOf x p p' slot slot'

  -- An executor gets its share of one channel more, and of its seats what a head takes.
  pub record Gets (before : ExecutorNodes S T) (share : ChannelPartView S T) (slot : Option SeatsView) (after : ExecutorNodes S T) : Type 0 where
    pub same : after ≡ record before { parts = after.parts; heads = after.heads; seats = after.seats }
    pub parts : after.parts.items ≡ before.parts.items ++ share ∷ []
    pub own : after.heads.items ≡ before.heads.items ++ cond (is_some share.head) (length before.parts.items ∷ []) []
    pub seats : after.seats.items ≡ before.seats.items ++ only_if (is_some share.head) slot ∷ []

-- ---- which channels have nodes where

-- a row of channels for each executor
abbrev pub rows_in : List (Vec ℕ) → List (List ℕ)
rows_in rows = map (λ row. row.items) rows

module _ {S T : Type 0} where
  -- the channels that have a hop on an executor, in order
  abbrev pub channels_on : List (ChannelPartView S T) → ℕ → List ℕ
  channels_on ps x = numbered_from 0 (map (λ (p : ChannelPartView S T). is_member (λ a b. a == b) p.path.executors x) ps)

module _ (channel : ℕ) where
  -- A channel is noted at the end of a row, where it is not there yet and later than all that are.
  pub record IsNoted (before after : List ℕ) : Type 0 where
    pub again : (earlier : List ℕ) → before ≡ earlier ++ channel ∷ [] → after ≡ before
    pub once : All (λ c. c < channel) before → after ≡ before ++ channel ∷ []

  -- So it is at an executor, if there is a row for it. The other rows stay.
  pub record IsNotedAt (executor : ℕ) (before after : List (List ℕ)) : Type 0 where
    pub count : length after ≡ length before
    pub here : executor < length before → IsNoted (get_or before executor []) (get_or after executor [])
    pub others : (x : ℕ) → x ≢ executor → get_or after x [] ≡ get_or before x []

  -- It comes to the end of the row of each of these executors.
  pub record AreNoted (executors : List ℕ) (before after : List (List ℕ)) : Type 0 where
    pub count : length after ≡ length before
    pub each : (x : ℕ) → x < length before → get_or after x [] ≡ get_or before x [] ++ cond (is_member (λ a b. a == b) executors x) (channel ∷ []) []
