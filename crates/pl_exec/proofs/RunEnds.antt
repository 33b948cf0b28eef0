-- The two ends of a channel that executors leave, and what their report says of its writes.
use Rattle.std.proofs.Common.{◌≡◌, ℕ, Bool, true, false, ◌||◌, ◌&&◌, List, [], ◌∷◌, ◌++◌, length, map, slice_get, Option, Some, None, refl, sym, ap, ap₂, subst, ◌∙◌, arith}
use Rattle.std.specs.Prelude.{All, is_some, nat_le}
use Rattle.std.proofs.lemmas.Bool.{and_parts, leb-true}
use Rattle.std.proofs.lemmas.List.Elements.{All-nil, All-cons, All-append, All-map}
use Rattle.pl_event.specs.declared.events.Event.{Event}
use Rattle.pl_event.specs.declared.outcomes.Cause.{Cause}
use Rattle.pl_event.specs.declared.outcomes.Outcome.{Outcome}
use Rattle.pl_event.specs.declared.outcomes.Outcome.TheVariants.{Closed}
use Rattle.pl_context.specs.Standings.{is_over}
use Rattle.pl_context.specs.TailViews.{TailView}
use Rattle.pl_head.specs.Marks.{Change}
use Rattle.pl_head.specs.Transports.{TransportState}
use Rattle.pl_head.specs.Failures.{failure_outcome, head_outcomes, settled_by}
use Rattle.pl_head.specs.WaitingMessages.{settled}
use Rattle.pl_head.specs.Writes.{flushed_writes, late_outcome, out, outcomes, unflushed_writes}
use Rattle.pl_head.specs.HeadStand.{HeadView, HeadStandsAfter}
use Rattle.pl_part.specs.HeadHolds.{HeadTook}
use Rattle.pl_channel.specs.Ends.{ends_of, EndsHold}
use Rattle.pl_channel.proofs.EndReports.{ends_with, failed-reports, keep, sound-reports}
use Rattle.pl_world.specs.declared.report.ChannelReport.{ChannelReport}
use Rattle.pl_world.specs.Plans.{ChannelPlan, Plan}
use Rattle.pl_world.specs.Reports.{IsChannelReport}
use Rattle.pl_world.proofs.SettledWrites.{outcomes_end}
use Rattle.pl_exec.specs.Reported.{AreRunEnds, IsLeftHead, IsLeftTail, ReportsRun}

-- ---- ends that executors leave

or-none : (over : Bool) (failure : Option Cause) → failure ≡ None → (over || is_some failure) ≡ true → over ≡ true
or-none true failure none e = refl
or-none false failure none e = sym (ap (λ (f : Option Cause). is_some f) none) ∙ e

module _ {T : Type 0} (state : T → TransportState) (plan : Plan) (c : ℕ) (p : ChannelPlan) (tail : TailView) (head : HeadView T) (planned : slice_get plan.channels c ≡ Some p)
    (own : IsLeftTail plan c p tail) (last : IsLeftHead state plan c p head) where
  -- they hold in the world of the plan
  abbrev pub held : EndsHold state true plan c p tail head
  held = record { planned = planned; tail_holds = own.holds; tail_channel = own.channel; tail_at = own.at; head_holds = last.holds; head_channel = last.channel; head_at = last.at; handed = own.handed; gone = last.gone }

  abbrev took : HeadTook state last.holds.events head
  took = last.holds.holds.took

  -- so many calls of its transport were made, which counts them up to its largest number
  abbrev calls : ℕ
  calls = last.keeps.calls

  -- They are ends as a run leaves them. (Whether writes get no number any more is nothing of a head that has not failed.)
  run-ends : (full : Bool) → (head.failure ≡ None → full ≡ false) → AreRunEnds p (ends_with state true plan c p tail head held full calls)
  run-ends full numbering =
      let ends = keep state true plan c p tail head held full numbering last.keeps in
      record {
        keep = ends;
        none_late = took.none_late;
        over = (λ i. own.over i && last.over i);
        accepted = λ none.
            let written : nat_le (length (out took.ys)) (length (state head.transport).accepted) ≡ true =
            sym (ap (λ (f : Option Cause). is_some f || nat_le (length (out took.ys)) (length (state head.transport).accepted)) none) ∙ last.written took.ys took.zs took.sizes took.after in
            let most = ends.lanes.accepted in
            omega (arith, most, leb-true (length (out took.ys)) (length (state head.transport).accepted) written);
        aborts = λ planned. last.keeps.closed planned last.read;
      }

  module _ (r : ChannelReport) (reports : (ys zs : List Event) (sizes : List Change) → HeadStandsAfter state head ys zs sizes → IsChannelReport (ends_of state tail head ys zs) r) where
    -- so their report is one of a run
    pub reports-run : ReportsRun p r
    reports-run = by head.failure refl
      where
        no : (cause : Cause) → Some cause ≡ None → ⊥
        no cause e = cc

        by : (f : Option Cause) → head.failure ≡ f → ReportsRun p r
        by (Some cause) failed = record {
          ends = ends_with state true plan c p tail head held head.buffer.is_full calls;
          ends_are = run-ends head.buffer.is_full (λ none. absurd (no cause (sym failed ∙ none)));
          reports = failed-reports state true plan c p tail head held r reports calls;
        }
        by None sound = record {
          ends = ends_with state true plan c p tail head held false calls;
          ends_are = run-ends false (λ e. refl);
          reports = sound-reports state true plan c p tail head held r reports sound calls;
        }

-- ---- each write has an outcome

abbrev pub HasOutcome : Option Outcome → Type 0
HasOutcome o = is_some o ≡ true

-- what is so of each value is so of each in a list
all-of : {A : Type 0} (P : A → Type 0) → ((x : A) → P x) → (xs : List A) → All P xs
all-of P each [] = All-nil P
all-of P each (x ∷ xs) = All-cons P x xs (each x) (all-of P each xs)

settled-some : (w : Option (List ℕ)) → HasOutcome (settled w)
settled-some None = refl
settled-some (Some b) = refl

settled_by-some : (o : Outcome) (before : Option Outcome) → HasOutcome (settled_by o before)
settled_by-some o None = refl
settled_by-some o (Some before) = refl

late-some : (o : Outcome) (w : Option (List ℕ)) → HasOutcome (late_outcome o w)
late-some o None = refl
late-some o (Some b) = refl

two-maps : {A B : Type 0} (f : A → Option Outcome) (g : B → Option Outcome) → ((x : A) → HasOutcome (f x)) → ((y : B) → HasOutcome (g y)) → (xs : List A) (ys : List B) → All HasOutcome (map f xs ++ map g ys)
two-maps f g some others xs ys =
    All-append HasOutcome (map f xs) (map g ys)
    (All-map HasOutcome f xs (all-of (λ x. HasOutcome (f x)) some xs))
    (All-map HasOutcome g ys (all-of (λ y. HasOutcome (g y)) others ys))

-- The head is over, and all flushed bytes were accepted; or it has failed.
outcomes-some : (failure : Option Cause) (ys : List Event) (late : List (Option (List ℕ))) (count : ℕ) (over : Bool) → (over || is_some failure) ≡ true → (failure ≡ None → count ≡ length (out ys))
    → All HasOutcome (head_outcomes failure ys late count over)
outcomes-some (Some cause) ys late count over ended all =
    two-maps (settled_by (failure_outcome cause)) (late_outcome (failure_outcome cause)) (settled_by-some (failure_outcome cause)) (late-some (failure_outcome cause)) (outcomes ys count over) late
outcomes-some None ys late count over ended all =
    let closed = or-none over None refl ended in
    subst (λ (os : List (Option Outcome)). All HasOutcome os)
    (outcomes_end ys ∙ ap₂ (λ (n : ℕ) (b : Bool). outcomes ys n b) (sym (all refl)) (sym closed))
    (two-maps settled (late_outcome Closed) settled-some (late-some Closed) (flushed_writes ys) (unflushed_writes ys))

pub run-settled : (p : ChannelPlan) (r : ChannelReport) → ReportsRun p r → All HasOutcome r.writes
run-settled p r is =
    let e = is.ends in
    let over = (and_parts (is_over e.tail_stands) (is_over e.head_stands || is_some e.failure) is.ends_are.over).1 in
    subst (λ (os : List (Option Outcome)). All HasOutcome os) (sym is.reports.writes_are.outcomes_are)
    (outcomes-some e.failure e.head is.reports.writes_are.late e.accepted (is_over e.head_stands) over is.ends_are.accepted)
