-- The worlds of a plan: what each data lane of each of its channels carries in all.
use Rattle.std.specs.Prelude.{ℕ, ◌+◌, Bool, List, [], ◌∷◌, ◌++◌, map}
use Rattle.std.specs.List.{range_with_len}
use Rattle.pl_event.specs.declared.envelopes.Lane.{Lane}
use Rattle.pl_event.specs.declared.events.Event.{Event}
use Rattle.pl_event.specs.Hops.{data_lane}
use Rattle.pl_event.specs.Worlds.{World}
use Rattle.pl_world.specs.Plans.{ChannelPlan, Plan, content, planned_head_hop}

-- the data lanes of a channel, from its first hop to its head's, each with the content that its plan gives it
abbrev pub channel_lanes : ℕ → ChannelPlan → List (Lane × List Event)
channel_lanes channel p = map (λ hop. (data_lane channel hop, content p hop)) (range_with_len 0 (planned_head_hop p + 1))

-- those of these channels, of which the first has this number
abbrev pub planned_lanes_from : ℕ → List ChannelPlan → List (Lane × List Event)
planned_lanes_from channel [] = []
planned_lanes_from channel (p ∷ ps) = channel_lanes channel p ++ planned_lanes_from (channel + 1) ps

abbrev pub planned_lanes : Plan → List (Lane × List Event)
planned_lanes plan = planned_lanes_from 0 plan.channels

-- The world of a plan (ChannelPipeline). In it executors close while others send to them, as in a run on threads, or
-- none does, as in a replay.
abbrev pub world_of : Bool → Plan → World
world_of refuses plan = record { contents = planned_lanes plan; refuses = refuses }
