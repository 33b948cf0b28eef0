-- The two ends of a channel, as its report has them, and as they hold in the world of a plan.
use Rattle.std.specs.Prelude.{◌≡◌, ℕ, Bool, false, List, length, slice_get, Some}
use Rattle.pl_event.specs.declared.events.Event.{Event}
use Rattle.pl_context.specs.TailViews.{TailView}
use Rattle.pl_head.specs.Transports.{TransportState}
use Rattle.pl_head.specs.HeadStand.{HeadView, gone_of}
use Rattle.pl_part.specs.HeadHolds.{HeadHolds}
use Rattle.pl_part.specs.TailHolds.{TailHolds}
use Rattle.pl_world.specs.Plans.{ChannelPlan, Plan, tail_hop, planned_head_hop}
use Rattle.pl_world.specs.Reports.{Ends}
use Rattle.pl_channel.specs.Lanes.{world_of}

module _ {T : Type 0} (state : T → TransportState) where
  -- The two ends of a channel. The head took the events ys before a failure of its own, and zs from it on.
  abbrev pub ends_of : TailView → HeadView T → List Event → List Event → Ends
  ends_of tail head ys zs = record {
    tail = tail.events;
    tail_stands = tail.standing;
    head = ys;
    late = zs;
    failure = head.failure;
    head_stands = head.standing;
    accepted = length (state head.transport).accepted;
    is_full = head.buffer.is_full;
    calls = (state head.transport).calls;
    reads = head.input.steps;
  }

  -- The two ends of a planned channel hold. Tail and head are those of channel number of a plan, each at its hop, and
  -- hold in the world of that plan, where lanes are refused or not. They have handed over and forgotten nothing.
  pub record EndsHold (refuses : Bool) (plan : Plan) (number : ℕ) (p : ChannelPlan) (tail : TailView) (head : HeadView T) : Type 0 where
    pub planned : slice_get plan.channels number ≡ Some p
    pub tail_holds : TailHolds (world_of refuses plan) tail
    pub tail_channel : tail.channel ≡ number
    pub tail_at : tail.hop ≡ tail_hop p
    pub head_holds : HeadHolds state (world_of refuses plan) head
    pub head_channel : head.channel ≡ number
    pub head_at : head.hop ≡ planned_head_hop p
    pub handed : tail.handed ≡ 0
    pub gone : gone_of head ≡ (0, false)
