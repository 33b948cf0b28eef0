-- The lanes between executors.
use Rattle.std.specs.Prelude.{ℕ, ◌+◌, ◌≤◌, ◌==◌, ◌&&◌, Bool, false, not, List, [], ◌∷◌, ◌++◌, length, map, filter, cond, slice_get, All, if◌then◌else◌}
use Rattle.std.specs.Option.{option_map_or}
use Rattle.std.specs.List.{flat_map, range_with_len}
use Rattle.pl_build.specs.declared.limits.TheConstants.{MAX_HANDLERS}
use Rattle.pl_event.specs.declared.envelopes.Lane.{Lane}
use Rattle.pl_event.specs.Hops.{data_lane, flags_lane}
use Rattle.pl_part.specs.Parts.{ChannelPartView}
use Rattle.pl_channel.specs.Channels.{is_hop, origin_of, target_of}
use Rattle.pl_channel.specs.Ways.{HasExecutors}
use Rattle.pl_world.specs.declared.limits.TheConstants.{MAX_CHANNELS}
use Rattle.pl_exec.specs.Opening.{LaneTable, table_lanes}

-- the lanes of a hop of a channel with so many hops: one with data and one with flags, but of the last, the head's, data alone
abbrev pub lanes_at : ℕ → ℕ → ℕ → List Lane
lanes_at channel hops hop = if hop + 1 == hops then data_lane channel hop ∷ [] else data_lane channel hop ∷ flags_lane channel hop ∷ []

-- one lane more at the way from an executor to another, and none from one to itself
abbrev pub with_lane : LaneTable → ℕ → ℕ → Lane → LaneTable
with_lane lanes origin target lane =
    map (λ y. map (λ x. table_lanes lanes x y ++ cond (not (x == y) && ((origin == x) && (target == y))) (lane ∷ []) []) (range_with_len 0 (length lanes))) (range_with_len 0 (length lanes))

-- so many lanes more at that way
abbrev pub with_lanes : LaneTable → ℕ → ℕ → List Lane → LaneTable
with_lanes lanes origin target [] = lanes
with_lanes lanes origin target (l ∷ ls) = with_lanes (with_lane lanes origin target l) origin target ls

module _ {S T : Type 0} where
  -- those of these channels, of which the first has this number
  abbrev pub lanes_from : ℕ → List (ChannelPartView S T) → List Lane
  lanes_from channel [] = []
  lanes_from channel (p ∷ ps) = flat_map (lanes_at channel (length p.path.executors)) (range_with_len 0 (length p.path.executors)) ++ lanes_from (channel + 1) ps

  -- every lane of these channels
  abbrev pub every_lane : List (ChannelPartView S T) → List Lane
  every_lane ps = lanes_from 0 ps

  -- a lane is one of them
  abbrev pub is_lane : List (ChannelPartView S T) → Lane → Bool
  is_lane ps l = option_map_or (λ (p : ChannelPartView S T). is_hop p l) (slice_get ps l.channel) false

  -- it goes from one executor to another
  abbrev pub crosses : List (ChannelPartView S T) → ℕ → ℕ → Lane → Bool
  crosses ps x y l = not (x == y) && ((origin_of ps l == x) && (target_of ps l == y))

  -- for each of so many targets, and for each origin, those of some lanes that go from that origin to that target
  abbrev pub table_of : List (ChannelPartView S T) → ℕ → List Lane → LaneTable
  table_of ps count lanes = map (λ y. map (λ x. filter (crosses ps x y) lanes) (range_with_len 0 count)) (range_with_len 0 count)

  -- for each of so many targets, and for each origin, the lanes from that origin to that target
  abbrev pub lane_table : List (ChannelPartView S T) → ℕ → LaneTable
  lane_table ps count = table_of ps count (every_lane ps)

  -- Channels within the limits, each of whose hops has an executor.
  pub record AreLaid (ps : List (ChannelPartView S T)) : Type 0 where
    pub channels : length ps ≤ MAX_CHANNELS
    pub hops : All HasExecutors ps
    pub few : All (λ p. length p.path.executors ≤ MAX_HANDLERS + 2) ps
