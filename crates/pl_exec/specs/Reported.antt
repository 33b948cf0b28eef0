-- The report of a run.
use Rattle.std.specs.Prelude.{◌≡◌, ◌≢◌, ℕ, Bool, ◌||◌, ◌&&◌, true, false, All, List, [], length, slice_get, Some, None, is_some}
use Rattle.std.specs.List.{AllZip}
use Rattle.std.specs.Option.{option_or}
use Rattle.pl_event.specs.declared.events.Event.{Event}
use Rattle.pl_context.specs.Standings.{is_over}
use Rattle.pl_context.specs.TailViews.{TailView}
use Rattle.pl_head.specs.Marks.{Change}
use Rattle.pl_head.specs.Writes.{out}
use Rattle.pl_head.specs.Transports.{TransportState}
use Rattle.pl_head.specs.HeadStand.{HeadView, HeadStandsAfter, gone_of, is_idle}
use Rattle.pl_part.specs.HeadHolds.{HeadHolds}
use Rattle.pl_part.specs.Parts.{ChannelPartView}
use Rattle.pl_part.specs.TailHolds.{TailHolds}
use Rattle.pl_channel.specs.Ends.{ends_of, EndsHold}
use Rattle.pl_channel.specs.Lanes.{world_of}
use Rattle.pl_channel.specs.PlanStand.{HeadKeepsPlan}
use Rattle.pl_world.specs.declared.report.ChannelReport.{ChannelReport}
use Rattle.pl_world.specs.declared.report.Report.{Report}
use Rattle.pl_world.specs.declared.report.Stands.TheVariants.{Open}
use Rattle.pl_world.specs.Plans.{ChannelPlan, Plan, tail_hop, planned_head_hop}
use Rattle.pl_world.specs.Reports.{AllKeepToPlan, Ends, EndsKeepToPlan, IsChannelReport, KeepsToPlan}
use Rattle.pl_exec.specs.declared.reporting.Found.{Found}

-- The two ends of a channel, as a run leaves them: they keep to the plan. The head took nothing late where its lane was over
-- before it failed by itself. Tail and head have ended or failed, and where the head has not failed by itself all flushed
-- bytes were accepted, and the plan has no abort.
pub record AreRunEnds (p : ChannelPlan) (e : Ends) : Type 0 where
  pub keep : EndsKeepToPlan p e
  pub none_late : is_over e.head_stands ≡ true → e.late ≡ []
  pub over : (is_over e.tail_stands && (is_over e.head_stands || is_some e.failure)) ≡ true
  pub accepted : e.failure ≡ None → e.accepted ≡ length (out e.head)
  pub aborts : is_some p.abort_after ≡ true → is_some e.failure ≡ true

-- The report of a channel is that of two ends, as a run leaves them.
pub record ReportsRun (p : ChannelPlan) (r : ChannelReport) : Type 0 where
  pub ends : Ends
  pub ends_are : AreRunEnds p ends
  pub reports : IsChannelReport ends r

-- The report of a run (FORMATS): each channel keeps to its plan, none is open, each write has an outcome. A channel's
-- tail and bytes begin what the handlers, composed on whole lists, make of its recorded input, and are all of it,
-- with the whole report, where it is drained. How a channel stands, its tail, its bytes and the outcomes are those of
-- two ends.
pub record IsRunReport (plan : Plan) (report : Report) : Type 0 where
  pub keeps : AllKeepToPlan plan.channels report.channels
  pub ended : All (λ (r : ChannelReport). r.stands ≢ Open) report.channels
  pub settled : All (λ (r : ChannelReport). All (λ outcome. is_some outcome ≡ true) r.writes) report.channels
  pub made : AllZip ReportsRun plan.channels report.channels

-- ---- the ends that executors leave

-- The tail of channel c, which has ended or failed, holds in the world of the plan.
pub record IsLeftTail (plan : Plan) (c : ℕ) (p : ChannelPlan) (tail : TailView) : Type 0 where
  pub holds : TailHolds (world_of true plan) tail
  pub channel : tail.channel ≡ c
  pub at : tail.hop ≡ tail_hop p
  pub handed : tail.handed ≡ 0
  pub over : is_over tail.standing ≡ true

-- So does its head, which has no read step and no flushed byte left, and keeps the plan.
pub record IsLeftHead {T : Type 0} (state : T → TransportState) (plan : Plan) (c : ℕ) (p : ChannelPlan) (head : HeadView T) : Type 0 where
  pub holds : HeadHolds state (world_of true plan) head
  pub channel : head.channel ≡ c
  pub at : head.hop ≡ planned_head_hop p
  pub gone : gone_of head ≡ (0, false)
  pub over : (is_over head.standing || is_some head.failure) ≡ true
  pub written : (ys zs : List Event) (sizes : List Change) → HeadStandsAfter state head ys zs sizes → is_idle state head ys ≡ true
  pub read : head.input.port.is_open ≡ false
  pub keeps : HeadKeepsPlan state p head

-- ---- the ends of a channel, as far as they were found

abbrev pub nothing_found : {T : Type 0} → Found T
nothing_found = record { tail = None; head = None }

-- with those among the nodes of a part
abbrev pub with_part : {S T : Type 0} → Found T → ChannelPartView S T → Found T
with_part f part = record { tail = option_or part.path.tail f.tail; head = option_or part.head f.head }

module _ {T : Type 0} (state : T → TransportState) where
  -- Both ends of a channel are found.
  pub record HasBothEnds (plan : Plan) (c : ℕ) (p : ChannelPlan) (f : Found T) : Type 0 where
    pub tail : TailView
    pub has_tail : f.tail ≡ Some tail
    pub left_tail : IsLeftTail plan c p tail
    pub head : HeadView T
    pub has_head : f.head ≡ Some head
    pub left_head : IsLeftHead state plan c p head

  -- So are those of each channel.
  pub record AreLeft (plan : Plan) (fs : List (Found T)) : Type 0 where
    pub count : length fs ≡ length plan.channels
    pub each : (c : ℕ) (p : ChannelPlan) (f : Found T) → slice_get plan.channels c ≡ Some p → slice_get fs c ≡ Some f → HasBothEnds plan c p f

  -- This is the report of the ends that were found, and keeps to each plan by which they hold.
  pub record IsFinalReport (f : Found T) (r : ChannelReport) : Type 0 where
    pub tail : TailView
    pub has_tail : f.tail ≡ Some tail
    pub head : HeadView T
    pub has_head : f.head ≡ Some head
    pub reports : (ys zs : List Event) (sizes : List Change) → HeadStandsAfter state head ys zs sizes → IsChannelReport (ends_of state tail head ys zs) r
    pub keeps : (refuses : Bool) (plan : Plan) (c : ℕ) (p : ChannelPlan) → EndsHold state refuses plan c p tail head → KeepsToPlan p r
