-- A report made of two ends that keep to the plan keeps to it.
use Rattle.std.proofs.Common.{◌≡◌, ℕ, ◌≤◌, List, [], ◌∷◌, ◌++◌, length, take, Bool, true, false, cond, leb, ◌&&◌, Option, Some, None, refl, sym, ap, ap₂, ◌∙◌, inl, inr, arith, append_assoc, append-nil}
use Rattle.std.proofs.lemmas.Bool.{cases_Bool, and_parts, leb-true}
use Rattle.std.proofs.Math.Seq.{take-length}
use Rattle.pl_event.specs.declared.events.Event.{Event}
use Rattle.pl_event.specs.declared.outcomes.Cause.{Cause}
use Rattle.pl_event.specs.declared.outcomes.Outcome.{Outcome}
use Rattle.pl_event.specs.Meaning.{IsPrefixOf}
use Rattle.pl_event.proofs.Lists.{prefix-trans, take-prefix_whole}
use Rattle.pl_context.specs.declared.standing.Standing.{Standing}
use Rattle.pl_context.specs.declared.standing.Standing.TheVariants as standing
use Rattle.pl_context.specs.Standings.{is_over, cause_of}
use Rattle.pl_head.specs.Writes.{write_by, has_flush, flushed_writes, bytes_of, out, outcomes}
use Rattle.pl_head.specs.Failures.{head_outcomes}
use Rattle.pl_head.specs.HeadStand.{first_cause}
use Rattle.pl_head.proofs.Buffering.{bytes_of-append}
use Rattle.pl_head.proofs.Flushing.{flushed-none, has_flush-longer}
use Rattle.pl_world.specs.declared.report.Stands.{Stands}
use Rattle.pl_world.specs.declared.report.Stands.TheVariants.{Drained}
use Rattle.pl_world.specs.declared.report.ChannelReport.{ChannelReport}
use Rattle.pl_world.specs.Plans.{ChannelPlan}
use Rattle.pl_world.specs.Reports.{Ends, has_ended, channel_cause, is_written_out, stands_by, IsChannelReport, head_of, whole_report, KeepsToPlan, EndsTakePlanned, ReportsPlan}

-- ---- the output of more events

-- what is flushed stays flushed
pub flushed-prefix : (xs ys : List Event) → IsPrefixOf (flushed_writes xs) (flushed_writes (xs ++ ys))
flushed-prefix [] ys = (flushed_writes ys, refl)
flushed-prefix (x ∷ xs) ys = elim (cases_Bool (has_flush (x ∷ xs))) [
  | inl now ↦
      let rest = flushed-prefix xs ys in (
        rest.0,
        ap (λ (b : Bool). (cond b (write_by x) [] ++ flushed_writes xs) ++ rest.0) now
            ∙ append_assoc (write_by x) (flushed_writes xs) rest.0
            ∙ ap (λ (l : List (Option (List ℕ))). write_by x ++ l) rest.1
            ∙ ap (λ (b : Bool). cond b (write_by x) [] ++ flushed_writes (xs ++ ys)) (sym (has_flush-longer (x ∷ xs) ys now)),
      )
  | inr not_yet ↦
      (flushed_writes ((x ∷ xs) ++ ys), ap (λ (l : List (Option (List ℕ))). l ++ flushed_writes ((x ∷ xs) ++ ys)) (flushed-none (x ∷ xs) not_yet))
]

pub out-prefix : (xs ys : List Event) → IsPrefixOf xs ys → IsPrefixOf (out xs) (out ys)
out-prefix xs ys p =
    let longer = flushed-prefix xs p.0 in (
      bytes_of longer.0,
      sym (bytes_of-append (flushed_writes xs) longer.0)
          ∙ ap bytes_of longer.1
          ∙ ap out p.1,
    )

-- ---- a drained channel

-- it has no cause, and all is taken and written
pub drained_parts : (cause : Option Cause) (all : Bool) → stands_by cause all ≡ Drained → (cause ≡ None) × (all ≡ true)
drained_parts None true h = (refl, refl)
drained_parts None false h = cc
drained_parts (Some c) all h = cc

pub no_cause : (first later : Option Cause) → first_cause first later ≡ None → (first ≡ None) × (later ≡ None)
no_cause None later h = (refl, h)
no_cause (Some c) later h = cc

ended_over : (s : Standing) → has_ended s ≡ true → is_over s ≡ true
ended_over standing.Open h = cc
ended_over standing.Ended h = refl
ended_over (standing.Failed c) h = cc

report_of : Stands → List Event → List ℕ → List (Option Outcome) → ChannelReport
report_of s t b w = record { stands = s; tail = t; bytes = b; writes = w }

same_report : (r q : ChannelReport) → r.stands ≡ q.stands → r.tail ≡ q.tail → r.bytes ≡ q.bytes → r.writes ≡ q.writes → r ≡ q
unfolding report_of
same_report r q stands tail bytes writes =
    ap (λ (s : Stands). report_of s r.tail r.bytes r.writes) stands
    ∙ ap (λ (t : List Event). report_of q.stands t r.bytes r.writes) tail
    ∙ ap (λ (b : List ℕ). report_of q.stands q.tail b r.writes) bytes
    ∙ ap (λ (w : List (Option Outcome)). report_of q.stands q.tail q.bytes w) writes

-- ---- a report of ends that keep to the plan

module _ (p : ChannelPlan) (e : Ends) (k : EndsTakePlanned p e) (r : ChannelReport) (is : IsChannelReport e r) where
  whole_bytes : e.accepted ≡ length (out e.head) → e.head ≡ head_of p → r.bytes ≡ out (head_of p)
  whole_bytes all head =
      is.bytes_are ∙ ap (λ (n : ℕ). take n (out e.head)) all ∙ take-length (out e.head) ∙ ap out head

  whole_writes : e.failure ≡ None → e.accepted ≡ length (out e.head) → e.head ≡ head_of p → is_over e.head_stands ≡ true
      → r.writes ≡ outcomes (head_of p) (length (out (head_of p))) true
  whole_writes none all head over =
      let late = is.writes_are.late in
      is.writes_are.outcomes_are
      ∙ ap (λ (f : Option Cause). head_outcomes f e.head late e.accepted (is_over e.head_stands)) none
      ∙ ap₂ (λ (n : ℕ) (b : Bool). outcomes e.head n b) all over
      ∙ ap (λ (ys : List Event). outcomes ys (length (out ys)) true) head

  -- where it says drained it is the whole report
  drained_whole : r.stands ≡ Drained → r ≡ whole_report p
  drained_whole drained =
      let parts = drained_parts (channel_cause e) (is_written_out e) (sym is.stands_is ∙ drained) in
      let own = no_cause (first_cause e.failure (cause_of e.head_stands)) (cause_of e.tail_stands) parts.0 in
      let none = (no_cause e.failure (cause_of e.head_stands) own.0).0 in
      let all = and_parts (has_ended e.tail_stands && has_ended e.head_stands) (leb (length (out e.head)) e.accepted) parts.1 in
      let both = and_parts (has_ended e.tail_stands) (has_ended e.head_stands) all.0 in
      let head : e.head ≡ head_of p = sym (append-nil e.head) ∙ ap (λ (l : List Event). e.head ++ l) (sym (k.late none)) ∙ k.head_whole both.1 in
      let enough : length (out e.head) ≤ e.accepted = leb-true (length (out e.head)) e.accepted all.1 in
      let size : e.accepted ≡ length (out e.head) = omega (arith, k.accepted, enough) in
      let tail = is.tail_is ∙ k.tail_whole both.0 in
      let bytes = whole_bytes size head in
      let writes = whole_writes none size head (ended_over e.head_stands both.1) in
      same_report r (whole_report p) drained tail bytes writes

  pub ends_keep_report : KeepsToPlan p r
  ends_keep_report = record {
    tail = (k.tail.0, ap (λ (l : List Event). l ++ k.tail.0) is.tail_is ∙ k.tail.1);
    bytes = (
        let written = prefix-trans (take e.accepted (out e.head)) (out e.head) (out (head_of p)) (take-prefix_whole e.accepted (out e.head))
        (out-prefix e.head (head_of p) (prefix-trans e.head (e.head ++ e.late) (head_of p) (e.late, refl) k.head)) in
        (written.0, ap (λ (l : List ℕ). l ++ written.0) is.bytes_are ∙ written.1)
        );
    whole = drained_whole;
  }

-- So a report of a channel with a plan keeps to it.
pub report_keeps : (p : ChannelPlan) (r : ChannelReport) → ReportsPlan p r → KeepsToPlan p r
report_keeps p r h = ends_keep_report p h.ends h.ends_keep.lanes r h.reports
