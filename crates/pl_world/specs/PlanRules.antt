-- What the plan of a built session keeps to.
use Rattle.std.specs.Prelude.{◌≡◌, ℕ, ◌+◌, ◌<◌, ◌≤◌, ◌^◌, length, true, false, All}
use Rattle.std.specs.List.{count_by, sum_by}
use Rattle.pl_event.specs.Meaning.{IsLawful}
use Rattle.pl_event.specs.Paths.{is_outbound, is_turn}
use Rattle.pl_world.specs.Plans.{ChannelPlan, Plan, content, planned_head_hop}
use Rattle.pl_event.specs.declared.limits.TheConstants.{MAX_ITEMS}

-- The inbound chain has the turn, just one, and no outbound stage, and the outbound chain nothing else. Each hop has an
-- executor that is there.
pub record IsChannelPlan (executors : ℕ) (p : ChannelPlan) : Type 0 where
  pub upwards : All (λ m. is_outbound m.direction ≡ false) p.inbound
  pub turn : count_by (λ m. is_turn m.direction) p.inbound ≡ 1
  pub downwards : All (λ m. is_outbound m.direction ≡ true) p.outbound
  pub lawful_inbound : All IsLawful p.inbound
  pub lawful_outbound : All IsLawful p.outbound
  pub hops : length p.executors ≡ planned_head_hop p + 1
  pub marks : p.low ≤ p.high
  pub placed : All (λ x. x < executors) p.executors

pub record IsPlan (plan : Plan) : Type 0 where
  pub channels : All (IsChannelPlan plan.executors) plan.channels
  pub capacity : 1 ≤ plan.capacity

-- how many lanes a plan has
abbrev pub lane_count : Plan → ℕ
lane_count plan = sum_by (λ p. planned_head_hop p + 1) plan.channels

-- A channel's data lanes have fewer than MAX_ITEMS items.
abbrev pub IsSmallChannel : ChannelPlan → Type 0
IsSmallChannel p = (hop : ℕ) → hop ≤ planned_head_hop p → length (content p hop) + 1 < MAX_ITEMS

-- Each lane of a plan has few items, and there are fewer lanes than 2 ^ 16.
pub record IsSmallPlan (plan : Plan) : Type 0 where
  pub channels : All IsSmallChannel plan.channels
  pub lanes : lane_count plan < 2 ^ 16
