-- The lanes between executors, by the way that they go, from one executor to another, and how many each way has.
use Rattle.std.specs.Prelude.{◌≡◌, ℕ, ◌+◌, ◌<◌, ◌^◌, ◌==◌, ◌&&◌, Bool, List, [], length, map, filter, cond, get_or, All}
use Rattle.std.specs.List.{flat_map, range_with_len}
use Rattle.pl_event.specs.declared.envelopes.Lane.{Lane}
use Rattle.pl_event.specs.Hops.{data_lane}
use Rattle.pl_part.specs.Paths.{writer_hop}
use Rattle.pl_part.specs.Parts.{ChannelPartView, head_hop}
use Rattle.pl_channel.specs.Channels.{data_lanes_of}

-- ---- tables of numbers, with a row for each executor

-- how many are counted from x to y
abbrev pub pairs_counted : List (List ℕ) → ℕ → ℕ → ℕ
pairs_counted table x y = get_or (get_or table x []) y 0

-- one more, from executor origin to executor target
abbrev pub one_more : ℕ → ℕ → ℕ → ℕ → ℕ
one_more origin target x y = cond ((origin == x) && (target == y)) 1 0

-- So many more are counted, from each executor that the table has to each.
pub record Counts (before after : List (List ℕ)) (more : ℕ → ℕ → ℕ) : Type 0 where
  pub rows : length after ≡ length before
  pub columns : (x : ℕ) → length (get_or after x []) ≡ length (get_or before x [])
  pub each : (x y : ℕ) → x < length before → y < length (get_or before x []) → pairs_counted after x y ≡ pairs_counted before x y + more x y

-- A number of 16 bits is enough for so many more.
pub record HasRoom (table : List (List ℕ)) (more : ℕ → ℕ → ℕ) : Type 0 where
  pub few : (x y : ℕ) → pairs_counted table x y + more x y < 2 ^ 16

-- ---- lanes

module _ {S T : Type 0} where
  -- Each hop has an executor, and so has the node that writes its lanes.
  pub record HasExecutors (p : ChannelPartView S T) : Type 0 where
    pub hops : length p.path.executors ≡ head_hop p + 1
    pub turn : p.path.turn < head_hop p

  -- the lanes of a hop go from executor x to executor y
  abbrev pub goes_between : ℕ → ℕ → ChannelPartView S T → ℕ → Bool
  goes_between x y p hop = (get_or p.path.executors (writer_hop p.path hop) 0 == x) && (get_or p.path.executors hop 0 == y)

  -- the hops whose lanes do
  abbrev pub hops_between : ℕ → ℕ → ChannelPartView S T → List ℕ
  hops_between x y p = filter (goes_between x y p) (range_with_len 0 (length p.path.executors))

  -- Parts with few data lanes, and an executor for each hop. A number of 16 bits counts the lanes.
  pub record ArePlaceable (ps : List (ChannelPartView S T)) : Type 0 where
    pub few : length (data_lanes_of ps) < 2 ^ 16
    pub hops : All HasExecutors ps

  -- the data lanes from executor x to executor y
  abbrev pub lanes_between : List (ChannelPartView S T) → ℕ → ℕ → List Lane
  lanes_between ps x y = flat_map (λ p. map (λ hop. data_lane p.path.channel hop) (hops_between x y p)) ps
