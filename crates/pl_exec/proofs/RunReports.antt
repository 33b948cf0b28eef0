-- The reports of channels whose ends were found.
use Rattle.std.proofs.Common.{◌≡◌, ◌≢◌, ℕ, Bool, true, false, ◌||◌, ◌&&◌, List, [], ◌∷◌, length, slice_get, Option, Some, None, inl, inr, ap, sym, subst, ◌∙◌, arith}
use Rattle.std.specs.Prelude.{is_some, nat_le, All}
use Rattle.std.specs.List.{AllZip}
use Rattle.std.proofs.lemmas.Bool.{false≢true}
use Rattle.std.proofs.lemmas.List.Elements.{All-nil, All-cons}
use Rattle.std.proofs.lemmas.Option.{same_Some, slice_get_within, slice_get_cases}
use Rattle.pl_event.specs.declared.outcomes.Cause.{Cause}
use Rattle.pl_context.specs.declared.standing.Standing.{Standing}
use Rattle.pl_context.specs.declared.standing.Standing.TheVariants as standing
use Rattle.pl_context.specs.Standings.{is_over, cause_of}
use Rattle.pl_context.specs.TailViews.{TailView}
use Rattle.pl_head.specs.Writes.{out}
use Rattle.pl_head.specs.Transports.{TransportState}
use Rattle.pl_head.specs.HeadStand.{HeadView, first_cause}
use Rattle.pl_event.proofs.Lists.{zip_through}
use Rattle.pl_world.specs.declared.report.ChannelReport.{ChannelReport}
use Rattle.pl_world.specs.declared.report.Stands.TheVariants.{Open}
use Rattle.pl_world.specs.Plans.{ChannelPlan, Plan}
use Rattle.pl_world.specs.Reports.{KeepsToPlan, has_ended, stands_by}
use Rattle.pl_exec.specs.declared.reporting.Found.{Found}
use Rattle.pl_exec.specs.Reported.{HasBothEnds, IsLeftTail, IsLeftHead, AreLeft, IsFinalReport, IsRunReport, ReportsRun}
use Rattle.pl_exec.proofs.RunEnds.{HasOutcome, held, reports-run, run-settled}

-- ---- how a channel stands

-- Not open: its tail and its head have ended or failed, and no flushed byte is left.
not-open : (failure : Option Cause) (head tail : Standing) (written : Bool) → is_over tail ≡ true → (is_over head || is_some failure) ≡ true → (is_some failure || written) ≡ true
    → stands_by (first_cause (first_cause failure (cause_of head)) (cause_of tail)) (has_ended tail && has_ended head && written) ≡ Open → ⊥
not-open (Some cause) head tail written over ended idle stays = cc
not-open None (standing.Failed cause) tail written over ended idle stays = cc
not-open None standing.Open tail written over ended idle stays = false≢true ended
not-open None standing.Ended (standing.Failed cause) written over ended idle stays = cc
not-open None standing.Ended standing.Open written over ended idle stays = false≢true over
not-open None standing.Ended standing.Ended true over ended idle stays = cc
not-open None standing.Ended standing.Ended false over ended idle stays = false≢true idle

-- ---- one channel

module _ {T : Type 0} (state : T → TransportState) (plan : Plan) (c : ℕ) (p : ChannelPlan) (planned : slice_get plan.channels c ≡ Some p) (f : Found T) (left : HasBothEnds state plan c p f)
    (r : ChannelReport) (final : IsFinalReport state f r) where
  -- the ends that were found are the ones that the report is of
  own : IsLeftTail plan c p final.tail
  own = subst (λ (t : TailView). IsLeftTail plan c p t) (same_Some left.tail final.tail (sym left.has_tail ∙ final.has_tail)) left.left_tail

  last : IsLeftHead state plan c p final.head
  last = subst (λ (h : HeadView T). IsLeftHead state plan c p h) (same_Some left.head final.head (sym left.has_head ∙ final.has_head)) left.left_head

  channel-keeps : KeepsToPlan p r
  channel-keeps = final.keeps true plan c p (held state plan c p final.tail final.head planned own last)

  channel-closed : r.stands ≢ Open
  channel-closed =
      let took = last.holds.holds.took in
      let report = final.reports took.ys took.zs took.sizes took.after in
      λ stays. not-open final.head.failure final.head.standing final.tail.standing (nat_le (length (out took.ys)) (length (state final.head.transport).accepted)) own.over last.over
      (last.written took.ys took.zs took.sizes took.after) (sym report.stands_is ∙ stays)

  channel-reports : ReportsRun p r
  channel-reports = reports-run state plan c p final.tail final.head planned own last r final.reports

-- ---- all reports

-- what is said of the second of each two alone
all-second : {A B : Type 0} (P : B → Type 0) (xs : List A) (ys : List B) → AllZip (λ (x : A) (y : B). P y) xs ys → All P ys
all-second P [] [] each = All-nil P
all-second P [] (y ∷ ys) each = elim each [ ]
all-second P (x ∷ xs) [] each = elim each [ ]
all-second P (x ∷ xs) (y ∷ ys) each = All-cons P y ys each.0 (all-second P xs ys each.1)

module _ {T : Type 0} (state : T → TransportState) (plan : Plan) (fs : List (Found T)) (are : AreLeft state plan fs) where
  -- both ends of a channel are there
  pub both-there : (k : ℕ) (f : Found T) → slice_get fs k ≡ Some f → (is_some f.tail ≡ true) × (is_some f.head ≡ true)
  both-there k f found =
      let within = slice_get_within fs k f found in
      let count = are.count in
      elim (slice_get_cases plan.channels k).1 as (λ _. (is_some f.tail ≡ true) × (is_some f.head ≡ true)) [
        | inl here ↦ let left = are.each k here.0 f here.2 found in (ap (λ (o : Option TailView). is_some o) left.has_tail, ap (λ (o : Option (HeadView T)). is_some o) left.has_head)
        | inr past ↦ let most = past.0 in absurd (omega (arith, within, count, most))
      ]

  -- what the report of each channel says, all of them say
  each-report : (Q : ChannelPlan → ChannelReport → Type 0)
      → ((c : ℕ) (p : ChannelPlan) → slice_get plan.channels c ≡ Some p → (f : Found T) → HasBothEnds state plan c p f → (r : ChannelReport) → IsFinalReport state f r → Q p r)
      → (reports : List ChannelReport) → AllZip (IsFinalReport state) fs reports → AllZip Q plan.channels reports
  each-report Q says reports each =
      zip_through (IsFinalReport state) Q plan.channels fs reports are.count (λ c p f planned found r final. says c p planned f (are.each c p f planned found) r final) each

  -- the reports of all make the report of the run
  pub run-report : (reports : List ChannelReport) → AllZip (IsFinalReport state) fs reports → IsRunReport plan (record { channels = reports })
  run-report reports each =
      let closed = each-report (λ (p : ChannelPlan) (r : ChannelReport). r.stands ≢ Open) (channel-closed state plan) reports each in
      let settled = each-report (λ (p : ChannelPlan) (r : ChannelReport). All HasOutcome r.writes) (λ c p planned f left r final. run-settled p r (channel-reports state plan c p planned f left r final)) reports each in
      record {
        keeps = each-report KeepsToPlan (channel-keeps state plan) reports each;
        ended = all-second (λ (r : ChannelReport). r.stands ≢ Open) plan.channels reports closed;
        settled = all-second (λ (r : ChannelReport). All HasOutcome r.writes) plan.channels reports settled;
        made = each-report ReportsRun (channel-reports state plan) reports each;
      }
