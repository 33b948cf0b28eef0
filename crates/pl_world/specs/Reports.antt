-- How a channel stands, what a report says of it, and the whole report of a drained session (docs/FORMATS.md, "Report").
use Rattle.std.specs.Prelude.{◌≡◌, ◌≢◌, ℕ, zero, suc, ◌+◌, ◌-◌, ◌<◌, ◌≤◌, ◌^◌, List, [], ◌++◌, length, take, min, Bool, true, false, if◌then◌else◌, nat_le, ◌&&◌, is_some, Option, Some, None}
use Rattle.std.specs.List.{AllZip}
use Rattle.pl_event.specs.declared.events.Event.{Event}
use Rattle.pl_event.specs.declared.outcomes.Cause.{Cause}
use Rattle.pl_event.specs.declared.outcomes.Cause.TheVariants.{Memory, Transport, Aborted, Refused}
use Rattle.pl_event.specs.Meaning.{IsPrefixOf}
use Rattle.pl_event.specs.Inputs.{recorded_input}
use Rattle.pl_event.specs.Lanes.{tail_lane, head_lane}
use Rattle.pl_context.specs.declared.standing.Standing.{Standing}
use Rattle.pl_context.specs.declared.standing.Standing.TheVariants as standing
use Rattle.pl_context.specs.Standings.{is_over, cause_of}
use Rattle.pl_head.specs.ReadSteps.{plan_steps}
use Rattle.pl_head.specs.Writes.{writes_by, flushed_writes, out, outcomes, bytes_offered}
use Rattle.pl_head.specs.Failures.{head_outcomes, AreOutcomes}
use Rattle.pl_head.specs.HeadStand.{first_cause}
use Rattle.pl_world.specs.declared.report.Stands.{Stands}
use Rattle.pl_world.specs.declared.report.Stands.TheVariants.{Drained, Open, Failed}
use Rattle.pl_world.specs.declared.report.ChannelReport.{ChannelReport}
use Rattle.pl_world.specs.Plans.{ChannelPlan, read_plan}

-- The two ends of a channel, from which its report is made.
pub record Ends : Type 0 where
  -- what the tail recorded, and how it stands: failed where it took a failure or failed by itself
  pub tail : List Event
  pub tail_stands : Standing
  -- what the head took before a failure of its own, and what it took from it on
  pub head : List Event
  pub late : List Event
  -- why the head failed by itself, if it did, and how its lane stands
  pub failure : Option Cause
  pub head_stands : Standing
  -- how many bytes its transport accepted, and whether writes get no number any more
  pub accepted : ℕ
  pub is_full : Bool
  -- how many calls of its transport were made, and how many read steps: one that brought a failure is not counted
  pub calls : ℕ
  pub reads : ℕ

-- ---- how a channel stands

-- the end of its lane was taken
abbrev pub has_ended : Standing → Bool
has_ended standing.Open = false
has_ended standing.Ended = true
has_ended (standing.Failed cause) = false

-- Why a channel has failed: its head has by itself, else the head took a failure, else its tail took one or has failed.
abbrev pub channel_cause : Ends → Option Cause
channel_cause e = first_cause (first_cause e.failure (cause_of e.head_stands)) (cause_of e.tail_stands)

-- Its tail and its head have taken the end of their lanes, and no flushed byte is left.
abbrev pub is_written_out : Ends → Bool
is_written_out e = has_ended e.tail_stands && has_ended e.head_stands && nat_le (length (out e.head)) e.accepted

abbrev pub stands_by : Option Cause → Bool → Stands
stands_by (Some cause) is_drained = Failed cause
stands_by None is_drained = if is_drained then Drained else Open

-- How a channel stands (FORMATS): failed where it has a cause, else drained where all is taken and written, else
-- open.
abbrev pub stands : Ends → Stands
stands e = stands_by (channel_cause e) (is_written_out e)

-- ---- its report

-- What a report says of a channel (ChannelPromise). By its two ends, the outcomes are the head's, and those after a
-- failure of the head's own are those of the writes that got a number.
pub record IsChannelReport (e : Ends) (r : ChannelReport) : Type 0 where
  pub stands_is : r.stands ≡ stands e
  pub tail_is : r.tail ≡ e.tail
  pub bytes_are : r.bytes ≡ take e.accepted (out e.head)
  pub writes_are : AreOutcomes e.failure e.is_full e.head e.late e.accepted (is_over e.head_stands) r.writes

-- the report of two ends where each write has a number
abbrev pub channel_report : Ends → ChannelReport
channel_report e = record {
  stands = stands e;
  tail = e.tail;
  bytes = take e.accepted (out e.head);
  writes = head_outcomes e.failure e.head (writes_by e.late) e.accepted (is_over e.head_stands);
}

-- what the whole recorded input brings to the tail
abbrev pub tail_of : ChannelPlan → List Event
tail_of p = tail_lane p.inbound p.outbound (recorded_input p.bursts)

-- what the whole recorded input brings to the head
abbrev pub head_of : ChannelPlan → List Event
head_of p = head_lane p.inbound p.outbound (recorded_input p.bursts)

-- what becomes of a channel that is drained
abbrev pub whole_report : ChannelPlan → ChannelReport
whole_report p = record {
  stands = Drained;
  tail = tail_of p;
  bytes = out (head_of p);
  writes = outcomes (head_of p) (length (out (head_of p))) true;
}

-- The report of a channel begins its whole report, and where drained is it. The tail's record and the bytes at the
-- head are prefixes of what the handlers, composed on lists, make of the whole recorded input.
pub record KeepsToPlan (p : ChannelPlan) (r : ChannelReport) : Type 0 where
  pub tail : IsPrefixOf r.tail (tail_of p)
  pub bytes : IsPrefixOf r.bytes (out (head_of p))
  pub whole : r.stands ≡ Drained → r ≡ whole_report p

-- each report of a session keeps to its channel's plan
abbrev pub AllKeepToPlan : List ChannelPlan → List ChannelReport → Type 0
AllKeepToPlan = AllZip KeepsToPlan

-- ---- the ends of a planned channel

-- Tail and head took prefixes of their lanes, in order, and all where they took the end. The head took nothing late and
-- numbers its writes while it has not failed by itself.
pub record EndsTakePlanned (p : ChannelPlan) (e : Ends) : Type 0 where
  pub tail : IsPrefixOf e.tail (tail_of p)
  pub tail_whole : has_ended e.tail_stands ≡ true → e.tail ≡ tail_of p
  pub head : IsPrefixOf (e.head ++ e.late) (head_of p)
  pub head_whole : has_ended e.head_stands ≡ true → e.head ++ e.late ≡ head_of p
  pub accepted : e.accepted ≤ length (out e.head)
  pub late : e.failure ≡ None → e.late ≡ []
  pub numbering : e.failure ≡ None → e.is_full ≡ false

-- How many bytes so many calls have accepted, none of which failed: each up to w bytes of what is left of one of these
-- messages.
abbrev pub accepted_by : ℕ → List (Option (List ℕ)) → ℕ → ℕ
accepted_by w writes zero = 0
accepted_by w writes (suc n) = accepted_by w writes n + min (bytes_offered 0 (accepted_by w writes n) writes) w

-- How many bytes so many calls have accepted at most, none of which failed: each all that is left of one of these messages.
abbrev pub most_by : List (Option (List ℕ)) → ℕ → ℕ
most_by writes zero = 0
most_by writes (suc n) = most_by writes n + bytes_offered 0 (most_by writes n) writes

-- how many calls of its transport have failed, where a head has failed by itself for this cause: the last one, or none
abbrev pub failed_calls : Option Cause → ℕ
failed_calls None = 0
failed_calls (Some Memory) = 0
failed_calls (Some Transport) = 1
failed_calls (Some Aborted) = 0
failed_calls (Some Refused) = 0

-- So many calls of a transport that accepted so many bytes are as the plan has them, where the head has failed by itself for
-- this cause or not. Fewer than k of them have not failed, if the transport was told to fail at call k, a call number from 1 to
-- 2 ^ 64 - 1. These have accepted at most what so many calls accept of the flushed writes of the head's whole lane; and where
-- the window is known, just what so many calls of it accept.
pub record CallsKeepToPlan (p : ChannelPlan) (failure : Option Cause) (calls accepted : ℕ) : Type 0 where
  pub failed : failure ≡ Some Transport → 0 < calls
  pub fails_there : (k : ℕ) → p.fail_at ≡ Some k → 0 < k → k < 2 ^ 64 → calls - failed_calls failure < k
  pub most : accepted ≤ most_by (flushed_writes (head_of p)) (calls - failed_calls failure)
  pub window : (w : ℕ) → p.window ≡ Some w → accepted ≡ accepted_by w (flushed_writes (head_of p)) (calls - failed_calls failure)

-- Tail and head took what the plan brings to them, and the calls of the transport are as it has them. The head aborts itself
-- only where the plan says so, after all read steps that come before the abort, and never fails by itself with Refused.
pub record EndsKeepToPlan (p : ChannelPlan) (e : Ends) : Type 0 where
  pub lanes : EndsTakePlanned p e
  pub calls : CallsKeepToPlan p e.failure e.calls e.accepted
  pub aborted : e.failure ≡ Some Aborted → (is_some p.abort_after ≡ true) × (e.reads + 1 ≡ plan_steps (read_plan p))
  pub unrefused : e.failure ≢ Some Refused

-- A report of two ends that keep to a channel's plan. How it stands, its outcomes, its tail and its bytes are those
-- of these ends. So the report keeps to the plan.
pub record ReportsPlan (p : ChannelPlan) (r : ChannelReport) : Type 0 where
  pub ends : Ends
  pub ends_keep : EndsKeepToPlan p ends
  pub reports : IsChannelReport ends r
  -- no lane of a replay is refused
  pub unrefused : r.stands ≢ Failed Refused

-- each report of a session is of two such ends
abbrev pub AllReportPlan : List ChannelPlan → List ChannelReport → Type 0
AllReportPlan = AllZip ReportsPlan
