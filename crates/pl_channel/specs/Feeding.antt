-- A channel that is fed a burst: the plan with it, and what has to be true of the channel's nodes.
use Rattle.std.specs.Prelude.{◌≡◌, ℕ, zero, suc, true, List, [], ◌∷◌, ◌++◌, map, get_or, slice_get, Option, Some, None}
use Rattle.pl_event.specs.declared.elements.Element.{Element}
use Rattle.pl_event.specs.Meaning.{Meaning}
use Rattle.pl_context.specs.declared.standing.Standing.TheVariants as standings
use Rattle.pl_context.specs.ContextViews.{ContextView}
use Rattle.pl_head.specs.HeadStand.{HeadView}
use Rattle.pl_head.specs.InputStand.{takes_bursts}
use Rattle.pl_part.specs.Paths.{context_at}
use Rattle.pl_part.specs.Parts.{ChannelPartView, part_standing}
use Rattle.pl_world.specs.Plans.{ChannelPlan, Plan, tail_hop}
use Rattle.pl_world.specs.PlanRules.{IsPlan, IsSmallChannel}

-- the plan of a channel, with one burst more
abbrev pub fed_channel : List Element → ChannelPlan → ChannelPlan
fed_channel burst p = record p { bursts = p.bursts ++ burst ∷ [] }

-- the plans of channels, of which the one with this number has one burst more
abbrev pub fed_channels : ℕ → List Element → List ChannelPlan → List ChannelPlan
fed_channels number burst [] = []
fed_channels zero burst (p ∷ ps) = fed_channel burst p ∷ ps
fed_channels (suc number) burst (p ∷ ps) = p ∷ fed_channels number burst ps

abbrev pub plan_fed : ℕ → List Element → Plan → Plan
plan_fed number burst plan = record plan { channels = fed_channels number burst plan.channels }

-- what the handler at a hop means, where there is one
abbrev pub meant_at : ChannelPlan → ℕ → Option Meaning
meant_at p hop = get_or (map (λ m. Some m) p.inbound ++ None ∷ map (λ m. Some m) p.outbound) hop None

-- the contexts of a part mean what the plan of its channel says of their hops
abbrev pub MeansPlan : {S T : Type 0} → (S → Meaning) → ChannelPlan → ChannelPartView S T → Type 0
MeansPlan meaning p part = (hop : ℕ) (c : ContextView _) → context_at part.path hop ≡ Some c → meant_at p hop ≡ Some (meaning c.stage)

-- A channel of a plan may be fed a burst. No node of its part has ended or failed, its head may be fed, and with the burst its
-- lanes are short.
pub record CanBeFed {S T : Type 0} (meaning : S → Meaning) (plan : Plan) (number : ℕ) (p : ChannelPlan) (burst : List Element) (part : ChannelPartView S T) : Type 0 where
  pub ruled : IsPlan plan
  pub planned : slice_get plan.channels number ≡ Some p
  pub small : IsSmallChannel (fed_channel burst p)
  pub channel : part.path.channel ≡ number
  pub tail_at : part.path.tail_hop ≡ tail_hop p
  pub meant : MeansPlan meaning p part
  pub is_open : part_standing part ≡ standings.Open
  pub reads : (h : HeadView T) → part.head ≡ Some h → takes_bursts h.input ≡ true
