-- What a report says of a channel's part, which has its tail and its head.
use Rattle.std.specs.Prelude.{◌≡◌, ℕ, List, length, slice_get, Bool, true, false, Some}
use Rattle.std.specs.List.{list_all, AllZip}
use Rattle.pl_event.specs.declared.events.Event.{Event}
use Rattle.pl_context.specs.TailViews.{TailView}
use Rattle.pl_head.specs.Marks.{Change}
use Rattle.pl_head.specs.Transports.{TransportState}
use Rattle.pl_head.specs.HeadStand.{HeadView, HeadStandsAfter}
use Rattle.pl_part.specs.Parts.{ChannelPartView}
use Rattle.pl_channel.specs.Ends.{ends_of, EndsHold}
use Rattle.pl_channel.specs.PlanStand.{HeadKeepsPlan}
use Rattle.pl_world.specs.declared.report.ChannelReport.{ChannelReport}
use Rattle.pl_world.specs.declared.report.Stands.{Stands}
use Rattle.pl_world.specs.declared.report.Stands.TheVariants as stands
use Rattle.pl_world.specs.Plans.{ChannelPlan, Plan}
use Rattle.pl_world.specs.Reports.{IsChannelReport, ReportsPlan, stands as stands_of}

abbrev pub is_drained : Stands → Bool
is_drained stands.Drained = true
is_drained stands.Open = false
is_drained (stands.Failed cause) = false

-- A part has both ends of its channel.
pub record HasEnds {S T : Type 0} (part : ChannelPartView S T) : Type 0 where
  pub tail : TailView
  pub head : HeadView T
  pub has_tail : part.path.tail ≡ Some tail
  pub has_head : part.head ≡ Some head

module _ {S T : Type 0} (state : T → TransportState) where
  -- This is the report of a part. It has both ends of its channel.
  pub record IsPartReport (part : ChannelPartView S T) (r : ChannelReport) : Type 0 where
    pub ends : HasEnds part
    pub reports : (ys zs : List Event) (sizes : List Change) → HeadStandsAfter state ends.head ys zs sizes → IsChannelReport (ends_of state ends.tail ends.head ys zs) r

  -- It is the report of two ends that keep to the plan, of each plan in whose world both ends of the part hold, and which the
  -- head keeps.
  abbrev pub ReportsItsPlan : ChannelPartView S T → ChannelReport → Type 0
  ReportsItsPlan part r = (plan : Plan) (c : ℕ) (p : ChannelPlan) (ends : HasEnds part) → EndsHold state false plan c p ends.tail ends.head
      → HeadKeepsPlan state p ends.head → ReportsPlan p r

  -- This is how they stand.
  pub record IsPartStands (part : ChannelPartView S T) (s : Stands) : Type 0 where
    pub ends : HasEnds part
    pub stands : (ys zs : List Event) (sizes : List Change) → HeadStandsAfter state ends.head ys zs sizes → s ≡ stands_of (ends_of state ends.tail ends.head ys zs)

  -- whether all of these channels are drained
  pub record AreDrained (parts : List (ChannelPartView S T)) (b : Bool) : Type 0 where
    pub stands : List Stands
    pub each : AllZip IsPartStands parts stands
    pub is : b ≡ list_all is_drained stands

  -- Of each channel of a plan the part has both ends, they hold in the world of the plan, and the head keeps the plan.
  pub record HaveEnds (plan : Plan) (parts : List (ChannelPartView S T)) : Type 0 where
    pub count : length parts ≡ length plan.channels
    pub each : (c : ℕ) (p : ChannelPlan) (part : ChannelPartView S T) → slice_get plan.channels c ≡ Some p → slice_get parts c ≡ Some part
        → (ends : HasEnds part) × EndsHold state false plan c p ends.tail ends.head × HeadKeepsPlan state p ends.head
