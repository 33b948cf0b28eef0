-- What of the nodes of a channel is as its plan has it, whatever moves they made.
use Rattle.std.specs.Prelude.{◌≡◌, ◌≢◌, ℕ, ◌+◌, ◌-◌, ◌^◌, List, length, min, Bool, true, false, is_some, Some, slice_get}
use Rattle.pl_event.specs.declared.outcomes.Cause.TheVariants.{Aborted, Refused}
use Rattle.pl_head.specs.ReadSteps.{plan_steps}
use Rattle.pl_head.specs.Transports.{TransportState}
use Rattle.pl_head.specs.HeadStand.{HeadView, ReadsStand}
use Rattle.pl_part.specs.Paths.{path_handed_over}
use Rattle.pl_part.specs.Parts.{ChannelPartView, head_hop, part_gone}
use Rattle.pl_world.specs.Plans.{ChannelPlan, Plan, read_plan, tail_hop}
use Rattle.pl_world.specs.Plans.{planned_head_hop}
use Rattle.pl_world.specs.Reports.{CallsKeepToPlan, failed_calls}

module _ {T : Type 0} (state : T → TransportState) where
  -- A head keeps to the plan of its channel. It reads by that, and has its marks, its window and the call that is to
  -- fail. The calls of its transport, which are counted up to 2 ^ 64 - 1, are as the plan has them, and one has
  -- failed just where the head has with Transport. It aborts itself only where the plan says so, after all read steps
  -- before the abort; with an abort planned only a failure closes its reads; and it never fails by itself with
  -- Refused.
  pub record HeadKeepsPlan (p : ChannelPlan) (h : HeadView T) : Type 0 where
    pub reads : (reads : ℕ) × (failed : Bool) × ReadsStand (read_plan p) reads failed h
    pub low : h.buffer.low ≡ p.low
    pub high : h.buffer.high ≡ p.high
    pub window : (state h.transport).window ≡ p.window
    pub fail_at : (state h.transport).fail_at ≡ p.fail_at
    pub calls : ℕ
    pub counted : (state h.transport).calls ≡ min calls (2 ^ 64 - 1)
    pub called : CallsKeepToPlan p h.failure calls (length (state h.transport).accepted)
    pub failures : (state h.transport).failures ≡ failed_calls h.failure
    pub aborted : h.failure ≡ Some Aborted → (is_some p.abort_after ≡ true) × (h.input.steps + 1 ≡ plan_steps (read_plan p))
    pub closed : is_some p.abort_after ≡ true → h.input.port.is_open ≡ false → is_some h.failure ≡ true
    pub unrefused : h.failure ≢ Some Refused

  -- The nodes of a channel stand at the hops of its plan. They have handed over and forgotten nothing.
  pub record PartKeepsPlan {S : Type 0} (p : ChannelPlan) (part : ChannelPartView S T) : Type 0 where
    pub executors : part.path.executors ≡ p.executors
    pub tail_at : part.path.tail_hop ≡ tail_hop p
    pub head_at : head_hop part ≡ planned_head_hop p
    pub head : (h : HeadView T) → part.head ≡ Some h → HeadKeepsPlan p h
    pub handed : path_handed_over part.path ≡ 0
    pub gone : part_gone part ≡ (0, false)

  -- so do those of all channels
  pub record PartsKeepPlan {S : Type 0} (plan : Plan) (parts : List (ChannelPartView S T)) : Type 0 where
    pub count : length parts ≡ length plan.channels
    pub each : (c : ℕ) (p : ChannelPlan) (part : ChannelPartView S T) → slice_get plan.channels c ≡ Some p → slice_get parts c ≡ Some part → PartKeepsPlan p part
