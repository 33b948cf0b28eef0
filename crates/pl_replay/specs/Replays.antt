-- What a report of a session by a schedule says.
use Rattle.std.specs.Prelude.{◌≡◌, ℕ, List, Bool, true}
use Rattle.std.specs.List.{list_all, AllZip}
use Rattle.pl_event.specs.declared.events.Event.{Event}
use Rattle.pl_event.specs.Meaning.{Meaning}
use Rattle.pl_head.specs.Transports.{TransportState}
use Rattle.pl_net.specs.Nets.{StationsView}
use Rattle.pl_world.specs.declared.moves.Move.{Move}
use Rattle.pl_world.specs.declared.report.Report.{Report}
use Rattle.pl_world.specs.Plans.{Plan}
use Rattle.pl_world.specs.Reports.{AllKeepToPlan, AllReportPlan}
use Rattle.pl_replay.specs.MoveModel.{is_there}
use Rattle.pl_replay.specs.Moves.{Reaches}
use Rattle.pl_replay.specs.Starts.{Begins}
use Rattle.pl_replay.specs.Reported.{IsPartReport}
use Rattle.pl_replay.specs.declared.channels.Channels.{Channels}

module _ {S T : Type 0} (meaning : S → Meaning) (stands_after : S → List Event → Type 0) (is_spent : S → Bool) (state : T → TransportState) (may_refuse : T → ℕ → Type 0) where
  -- the report of a replay by these moves
  pub record IsReplayed (plan : Plan) (transports : List T) (moves : List Move) (report : Report) : Type 0 where
    -- each move names what is there
    pub there : list_all (is_there plan) moves ≡ true
    -- the report is that of what the moves lead to, one after another, from a start of the plan
    pub start : StationsView (Channels S T)
    pub begins : Begins meaning stands_after state plan transports start
    pub end : StationsView (Channels S T)
    pub reached : Reaches meaning stands_after is_spent state may_refuse plan.capacity moves start end
    pub reports : AllZip (IsPartReport state) end.nodes.parts.items report.channels
    -- it begins what the handlers, composed on whole lists, make of the recorded input, and is all of it where drained
    pub kept : AllKeepToPlan plan.channels report.channels
    -- and of each channel, whatever has failed, it is what two ends say that keep to the plan
    pub planned : AllReportPlan plan.channels report.channels
