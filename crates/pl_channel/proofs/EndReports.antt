-- A report of two ends keeps to the plan where these hold.
use Rattle.std.proofs.Common.{◌≡◌, ℕ, Bool, true, false, List, [], ◌++◌, length, take, Option, Some, None, refl, sym, ap, subst, ◌∙◌, arith, length-append, append-nil}
use Rattle.std.proofs.lemmas.List.{nil_from_length, take_all}
use Rattle.std.proofs.lemmas.Bool.{both_ways}
use Rattle.pl_event.specs.declared.events.Event.{Event}
use Rattle.pl_event.specs.declared.outcomes.Cause.{Cause}
use Rattle.pl_event.specs.declared.outcomes.Cause.TheVariants.{Refused}
use Rattle.pl_event.specs.Meaning.{IsPrefixOf}
use Rattle.pl_event.specs.Worlds.{World, may_fail}
use Rattle.pl_event.proofs.Lists.{prefix-trans, take-prefix_whole, append-none}
use Rattle.pl_context.specs.declared.standing.Standing.{Standing}
use Rattle.pl_context.specs.declared.standing.Standing.TheVariants as standing
use Rattle.pl_context.specs.Standings.{is_over, has_failed, cause_of}
use Rattle.pl_context.specs.TailViews.{TailView}
use Rattle.pl_head.specs.Marks.{Change}
use Rattle.pl_head.specs.Transports.{TransportState}
use Rattle.pl_head.specs.Writes.{out, writes_by}
use Rattle.pl_head.specs.HeadStand.{HeadView, BufferAfter, HeadStandsAfter, head_cause}
use Rattle.pl_part.specs.TailHolds.{MayFailFor}
use Rattle.pl_part.specs.HeadHolds.{HeadTook}
use Rattle.pl_part.proofs.Causes.{may-first}
use Rattle.pl_world.specs.declared.report.ChannelReport.{ChannelReport}
use Rattle.pl_world.specs.declared.report.Stands.TheVariants.{Failed}
use Rattle.pl_world.specs.Plans.{ChannelPlan, Plan, tail_hop, planned_head_hop}
use Rattle.pl_world.specs.Reports.{Ends, has_ended, channel_cause, is_written_out, stands_by, IsChannelReport, tail_of, head_of, KeepsToPlan, EndsTakePlanned, EndsKeepToPlan, ReportsPlan}
use Rattle.pl_world.proofs.PlannedReports.{out-prefix, drained_parts, ends_keep_report, no_cause}
use Rattle.pl_channel.specs.Lanes.{world_of}
use Rattle.pl_channel.specs.Ends.{ends_of, EndsHold}
use Rattle.pl_channel.specs.PlanStand.{HeadKeepsPlan}
use Rattle.pl_channel.proofs.HeadLanes.{all-in-order, comes-to, first-of}
use Rattle.pl_channel.proofs.LaneContents.{content-planned}

ended-is : (s : Standing) → has_ended s ≡ true → s ≡ standing.Ended
ended-is standing.Open e = cc
ended-is standing.Ended e = refl
ended-is (standing.Failed cause) e = cc

-- Where no lane is refused, no channel has failed for that.
not-refused : (world : World) → world.refuses ≡ false → (cause : Option Cause) (drained : Bool) → MayFailFor world cause → stands_by cause drained ≡ Failed Refused → ⊥
not-refused world none None true may e = cc
not-refused world none None false may e = cc
not-refused world none (Some cause) drained may e = both_ways world.refuses none (subst (λ (k : Cause). may_fail world k ≡ true) (same e) may)
  where
    same : Failed cause ≡ Failed Refused → cause ≡ Refused
    same e = cc

-- How often its transport was called is nothing of a report.
pub called-report : (e : Ends) (calls : ℕ) (r : ChannelReport) → IsChannelReport e r → IsChannelReport (record e { calls = calls }) r
called-report e calls r is = record { stands_is = is.stands_is; tail_is = is.tail_is; bytes_are = is.bytes_are; writes_are = is.writes_are }

-- The report of a head that has taken nothing late is as well that of one whose writes get numbers: that is nothing of it then.
pub numbered-report : (e : Ends) (r : ChannelReport) → e.late ≡ [] → IsChannelReport e r → IsChannelReport (record e { is_full = false }) r
numbered-report e r none is = record {
  stands_is = is.stands_is;
  tail_is = is.tail_is;
  bytes_are = is.bytes_are;
  writes_are = record {
    late = is.writes_are.late;
    unnumbered = is.writes_are.unnumbered;
    split = is.writes_are.split;
    all = λ going. append-none is.writes_are.late is.writes_are.unnumbered (is.writes_are.split ∙ ap writes_by none);
    outcomes_are = is.writes_are.outcomes_are;
  };
}

module _ {T : Type 0} (state : T → TransportState) (refuses : Bool) (plan : Plan) (number : ℕ) (p : ChannelPlan) (tail : TailView) (head : HeadView T) (held : EndsHold state refuses plan number p tail head) where
  to-tail : held.tail_holds.events ≡ tail_of p
  to-tail = comes-to refuses plan number held.tail_holds.events (tail_of p) tail.channel tail.hop (tail_hop p) held.tail_holds.holds.own held.tail_channel held.tail_at (content-planned plan number p held.planned (tail_hop p) (omega arith))

  -- the tail has handed over none of its record
  all-kept : (xs : List Event) → held.tail_holds.holds.gone ++ tail.events ≡ xs → tail.events ≡ xs
  all-kept xs e = ap (λ (gone : List Event). gone ++ tail.events) (sym (nil_from_length held.tail_holds.holds.gone (held.tail_holds.holds.handed ∙ held.handed))) ∙ e

  tail-first : IsPrefixOf tail.events (tail_of p)
  tail-first = subst (λ (xs : List Event). IsPrefixOf tail.events xs) to-tail (by tail.standing refl)
    where
      by : (s : Standing) → tail.standing ≡ s → IsPrefixOf tail.events held.tail_holds.events
      by standing.Open is = first-of tail.taken tail.events held.tail_holds.events (all-kept (take tail.taken held.tail_holds.events) (held.tail_holds.holds.taken is).1)
      by standing.Ended is = ([], append-nil tail.events ∙ all-kept held.tail_holds.events (held.tail_holds.holds.ended is))
      by (standing.Failed cause) is =
          let some = held.tail_holds.holds.failed (ap has_failed is) in
          first-of some.0 tail.events held.tail_holds.events (all-kept (take some.0 held.tail_holds.events) some.2)

  tail-whole : has_ended tail.standing ≡ true → tail.events ≡ tail_of p
  tail-whole ended = all-kept held.tail_holds.events (held.tail_holds.holds.ended (ended-is tail.standing ended)) ∙ to-tail

  to-head : held.head_holds.events ≡ head_of p
  to-head = comes-to refuses plan number held.head_holds.events (head_of p) head.channel head.hop (planned_head_hop p) held.head_holds.holds.own held.head_channel held.head_at (content-planned plan number p held.planned (planned_head_hop p) (omega arith))

  abbrev took : HeadTook state held.head_holds.events head
  took = held.head_holds.holds.took

  abbrev accepted : List ℕ
  accepted = (state head.transport).accepted

  -- the head took the first events of it, with none left out
  head-first : IsPrefixOf (took.ys ++ took.zs) (head_of p)
  head-first = subst (λ (xs : List Event). IsPrefixOf (took.ys ++ took.zs) xs) to-head (first-of took.count (took.ys ++ took.zs) held.head_holds.events (all-in-order state held.head_holds.events head took (ap (λ (x : ℕ × Bool). x.1) held.gone)))

  head-whole : has_ended head.standing ≡ true → took.ys ++ took.zs ≡ head_of p
  head-whole ended = all-in-order state held.head_holds.events head took (ap (λ (x : ℕ × Bool). x.1) held.gone) ∙ take_all took.count held.head_holds.events (omega (arith, took.ended (ended-is head.standing ended))) ∙ to-head

  output : (left : List ℕ) × (accepted ++ left ≡ out took.ys)
  output = by head.failure took.after
    where
      by : (f : Option Cause) → BufferAfter f accepted head.buffer took.ys took.zs (is_over head.standing) took.sizes → (left : List ℕ) × (accepted ++ left ≡ out took.ys)
      by None a = (a.1.left, a.1.output)
      by (Some cause) a = (a.left, a.output)

  none-late : head.failure ≡ None → took.zs ≡ []
  none-late sound = (subst (λ (f : Option Cause). BufferAfter f accepted head.buffer took.ys took.zs (is_over head.standing) took.sizes) sound took.after).0

  -- The ends took what the plan brings to them, whether writes get no number any more and however often the transport was called.
  abbrev pub ends_with : Bool → ℕ → Ends
  ends_with full calls = record (ends_of state tail head took.ys took.zs) { is_full = full; calls = calls }

  take-planned : (full : Bool) (calls : ℕ) → (head.failure ≡ None → full ≡ false) → EndsTakePlanned p (ends_with full calls)
  take-planned full calls numbering = record {
    tail = tail-first;
    tail_whole = tail-whole;
    head = head-first;
    head_whole = head-whole;
    accepted = omega (arith, ap (λ (bs : List ℕ). length bs) output.1, length-append accepted output.0);
    late = none-late;
    numbering = numbering;
  }

  -- so they keep to the plan, where the head does
  pub keep : (full : Bool) → (head.failure ≡ None → full ≡ false) → (keeps : HeadKeepsPlan state p head) → EndsKeepToPlan p (ends_with full keeps.calls)
  keep full numbering keeps = record { lanes = take-planned full keeps.calls numbering; calls = keeps.called; aborted = keeps.aborted; unrefused = keeps.unrefused }

  module _ (r : ChannelReport) (reports : (ys zs : List Event) (sizes : List Change) → HeadStandsAfter state head ys zs sizes → IsChannelReport (ends_of state tail head ys zs) r) where
    is : IsChannelReport (ends_of state tail head took.ys took.zs) r
    is = reports took.ys took.zs took.sizes took.after

    unrefused : refuses ≡ false → r.stands ≡ Failed Refused → ⊥
    unrefused none e =
        let world = world_of refuses plan in
        let by_head = may-first world head.failure (cause_of head.standing) held.head_holds.holds.may_itself held.head_holds.holds.may in
        not-refused world none (channel_cause (ends_of state tail head took.ys took.zs)) (is_written_out (ends_of state tail head took.ys took.zs))
        (may-first world (head_cause head) (cause_of tail.standing) by_head held.tail_holds.holds.may) (sym is.stands_is ∙ e)

    -- the report of a head that has failed by itself, or has not
    pub failed-reports : (calls : ℕ) → IsChannelReport (ends_with head.buffer.is_full calls) r
    failed-reports calls = called-report (ends_of state tail head took.ys took.zs) calls r is

    pub sound-reports : head.failure ≡ None → (calls : ℕ) → IsChannelReport (ends_with false calls) r
    sound-reports sound calls = numbered-report (ends_with head.buffer.is_full calls) r (none-late sound) (failed-reports calls)

    -- a report of ends that hold is one of a channel with the plan, where its head keeps the plan
    pub ends-report : refuses ≡ false → HeadKeepsPlan state p head → ReportsPlan p r
    ends-report none keeps = by head.failure refl
      where
        by : (f : Option Cause) → head.failure ≡ f → ReportsPlan p r
        by None sound = record { ends = ends_with false keeps.calls; ends_keep = keep false (λ e. refl) keeps; reports = sound-reports sound keeps.calls; unrefused = unrefused none }
        by (Some cause) failed = record {
          ends = ends_with head.buffer.is_full keeps.calls;
          ends_keep = keep head.buffer.is_full (λ sound. absurd (no (sym failed ∙ sound))) keeps;
          reports = failed-reports keeps.calls;
          unrefused = unrefused none;
        }
          where
            no : Some cause ≡ None → ⊥
            no e = cc

    -- and keeps to the plan, whatever its head does
    pub ends-keep : KeepsToPlan p r
    ends-keep = by head.failure refl
      where
        by : (f : Option Cause) → head.failure ≡ f → KeepsToPlan p r
        by None sound = ends_keep_report p (ends_with false 0) (take-planned false 0 (λ e. refl)) r (sound-reports sound 0)
        by (Some cause) failed = record {
          tail = subst (λ (xs : List Event). IsPrefixOf xs (tail_of p)) (sym is.tail_is) tail-first;
          bytes = subst (λ (bs : List ℕ). IsPrefixOf bs (out (head_of p))) (sym is.bytes_are)
              (prefix-trans (take (length accepted) (out took.ys)) (out took.ys) (out (head_of p)) (take-prefix_whole (length accepted) (out took.ys))
              (out-prefix took.ys (head_of p) (prefix-trans took.ys (took.ys ++ took.zs) (head_of p) (took.zs, refl) head-first)));
          whole = λ drained.
              let none = (drained_parts (channel_cause (ends_of state tail head took.ys took.zs)) (is_written_out (ends_of state tail head took.ys took.zs)) (sym is.stands_is ∙ drained)).0 in
              absurd (no (sym failed ∙ (no_cause head.failure (cause_of head.standing) (no_cause (head_cause head) (cause_of tail.standing) none).0).0));
        }
          where
            no : Some cause ≡ None → ⊥
            no e = cc
