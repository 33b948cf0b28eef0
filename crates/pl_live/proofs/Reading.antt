-- What a read step and a write of its head leave of a live channel's part.
use Rattle.std.proofs.Common.{◌≡◌, ◌≢◌, ℕ, zero, suc, ◌+◌, ◌-◌, ◌≤◌, ◌⊎◌, inl, inr, Bool, true, false, List, length, drop, Option, Some, refl, sym, ap, subst, ◌∙◌, arith, ⊎_elim}
use Rattle.std.specs.Prelude.{is_some, ◌||◌, ◌&&◌, not, ◌==◌}
use Rattle.std.specs.Prelude.{nat_lt, if◌then◌else◌}
use Rattle.std.proofs.lemmas.Bool.{both_ways, cases_eq, le-ltb, ne_eqb}
use Rattle.std.proofs.lemmas.List.{length-drop}
use Rattle.std.proofs.lemmas.Option.{same_Some}
use Rattle.pl_event.specs.declared.events.Event.{Event}
use Rattle.pl_event.specs.declared.outcomes.Cause.{Cause}
use Rattle.pl_event.specs.Inputs.{Bursts}
use Rattle.pl_event.specs.Meaning.{Meaning}
use Rattle.pl_event.proofs.Lists.{some-of}
use Rattle.pl_context.specs.OutputsViews.{OutputsView}
use Rattle.pl_flow.specs.declared.head_moves.HeadMove.TheVariants as by
use Rattle.pl_head.specs.declared.heads.OutStep.{OutStep}
use Rattle.pl_head.specs.declared.heads.OutStep.TheVariants as step
use Rattle.pl_head.specs.declared.heads.ReadStep.TheVariants as reading
use Rattle.pl_head.specs.declared.inputs.ReadPlan.{ReadPlan}
use Rattle.pl_head.specs.HeadCalls.{HeadReads, HeadWrites}
use Rattle.pl_head.specs.HeadStand.{HeadView, ReadsStand, cause_of_step}
use Rattle.pl_head.specs.InputStand.{InputView, InputStands, fed_plan, steps_left}
use Rattle.pl_head.proofs.FedPlans.{count}
use Rattle.pl_head.specs.ReadSteps.{brings_failure, brings_abort, steps_after, step_count}
use Rattle.pl_head.specs.Transports.{TransportState}
use Rattle.pl_part.specs.Parts.{ChannelPartView, SamePart, PartMoves}
use Rattle.pl_world.specs.Plans.{ChannelPlan}
use Rattle.pl_live.specs.LiveStand.{ReadsFed, GoesByPlan}
use Rattle.pl_live.proofs.Meant.{path-means}
use Rattle.pl_live.proofs.Followed.{IsHeadFed, goes-same, none-before, some-failed}

-- how many steps are left of those before the end
pub steps-left : (bursts : Bursts) (reads : ℕ) (failed : Bool) (r : InputView) → InputStands (fed_plan bursts) reads failed r → steps_left r ≡ length bursts + 1 - reads
steps-left bursts reads failed r s =
    (λ i. steps_left (record r { left = s.left i; steps = s.steps i })) ∙ by reads
  where
    by : (n : ℕ) → length (drop (n - 1) bursts) + (if n == 0 then 1 else 0) ≡ length bursts + 1 - n
    by zero = let size = length-drop (zero - 1) bursts in omega (arith, size)
    by (suc n) =
        let size = length-drop (suc n - 1) bursts in
        let none = ap {B = ℕ} (λ (b : Bool). if b then 1 else 0) (ne_eqb (suc n) 0 (λ e. omega (arith, e))) in
        omega (arith, size, none)

-- no abort is planned, so a step brings a failure only of a head that has failed
no-abort : (b : Bool) → (b || false) ≡ b
no-abort true = refl
no-abort false = refl

no-step : (b : Bool) → (not b && false) ≡ false
no-step true = refl
no-step false = refl

module _ {T : Type 0} (state : T → TransportState) (p : ChannelPlan) (ends : Bool) (h h' : HeadView T) (b a : OutputsView) where
  -- how a head stands after a read step: its reads are closed, or it has read a burst; the rest is as it was
  pub record StepRead : Type 0 where
    pub fed : ReadsFed p ends h'
    pub transport : h'.transport ≡ h.transport
    pub failure : h'.failure ≡ h.failure
    pub closed : h'.is_closed ≡ h.is_closed
    pub read : (h'.input.port.is_open ≡ false) ⊎ (steps_left h'.input + 1 ≡ steps_left h.input)
    pub least : steps_left h.input ≤ steps_left h'.input + 1
    pub most : steps_left h'.input ≤ steps_left h.input

  module _ (r : HeadReads state h b reading.Gave h' a) (fed : ReadsFed p ends h) (more : steps_left h.input ≡ 0 → ends ≡ true) where
    abbrev plan : ReadPlan
    plan = fed_plan p.bursts

    unaborted : brings_abort plan fed.reads h.failure ≡ false
    unaborted = no-step (is_some h.failure)

    same : h' ≡ record h { input = h'.input }
    same = r.same refl plan fed.reads fed.failed fed.stand unaborted

    now : ReadsStand plan (steps_after plan fed.reads h.failure) (brings_failure plan fed.reads h.failure) h'
    now = r.reads refl plan fed.reads fed.failed fed.stand

    fails : h'.failure ≡ h.failure
    fails = ap (λ (x : HeadView T). x.failure) same

    steps : (f : Bool) → brings_failure plan fed.reads h.failure ≡ f → ReadsStand plan (if f then fed.reads else fed.reads + 1) f h'
    steps f is = subst (λ (x : Bool). ReadsStand plan (if x then fed.reads else fed.reads + 1) x h') is now

    was-left : steps_left h.input ≡ length p.bursts + 1 - fed.reads
    was-left = steps-left p.bursts fed.reads fed.failed h.input fed.stand

    closed-by : (f : Bool) → brings_failure plan fed.reads h.failure ≡ f → StepRead
    closed-by true is = let s = steps true is in record {
      fed = record {
        reads = fed.reads;
        failed = true;
        stand = s;
        by_failure = λ _. ap (λ (f : Option Cause). is_some f) fails ∙ sym (no-abort (is_some h.failure)) ∙ is;
        not_ended = fed.not_ended;
      };
      transport = ap (λ (x : HeadView T). x.transport) same;
      failure = fails;
      closed = ap (λ (x : HeadView T). x.is_closed) same;
      read = inl s.is_open;
      least = let left-was = was-left in let left-now = steps-left p.bursts fed.reads true h'.input s in omega (arith, left-was, left-now);
      most = let left-was = was-left in let left-now = steps-left p.bursts fed.reads true h'.input s in omega (arith, left-was, left-now);
    }
    closed-by false is =
        let s = steps false is in
        let all = count p.bursts in
        let left-now = steps-left p.bursts (fed.reads + 1) false h'.input s in
        let left-was = was-left in
        record {
          fed = record {
            reads = fed.reads + 1;
            failed = false;
            stand = s;
            by_failure = λ e. absurd (both_ways true (sym e) refl);
            not_ended = λ off. ⊎_elim
                (λ (none : steps_left h.input ≡ 0). absurd (both_ways ends off (more none)))
                (λ (some : steps_left h.input ≢ 0). omega (arith, left-was, some))
                (cases_eq (steps_left h.input) 0);
          };
          transport = ap (λ (x : HeadView T). x.transport) same;
          failure = fails;
          closed = ap (λ (x : HeadView T). x.is_closed) same;
          read = ⊎_elim
              (λ (none : steps_left h.input ≡ 0).
              let past : step_count p.bursts ≤ fed.reads + 1 = omega (arith, left-was, none, all) in
              inl (s.is_open ∙ le-ltb-off (fed.reads + 1) (step_count p.bursts) past))
              (λ (some : steps_left h.input ≢ 0). inr (omega (arith, left-was, left-now, some)))
              (cases_eq (steps_left h.input) 0);
          least = omega (arith, left-was, left-now);
          most = omega (arith, left-was, left-now);
        }
      where
        le-ltb-off : (n m : ℕ) → m ≤ n → (true && nat_lt n m) ≡ false
        le-ltb-off n m h = le-ltb n m h

    pub step-read : StepRead
    step-read = closed-by (brings_failure plan fed.reads h.failure) refl

-- ---- a part

module _ {S T : Type 0} (meaning : S → Meaning) (stands_after : S → List Event → Type 0) (state : T → TransportState) (may_refuse : T → ℕ → Type 0) (p : ChannelPlan) (ends : Bool) (part part' : ChannelPartView S T) (b a : OutputsView)
    (same : SamePart part part') (g : GoesByPlan meaning stands_after state p ends part) where
  abbrev head : HeadView T
  head = (some-of part.head g.has_head).0

  abbrev is-head : part.head ≡ Some head
  is-head = (some-of part.head g.has_head).1

  -- after a read step of its head: how that stands, and that all else is as it was
  pub record PartRead : Type 0 where
    pub h' : HeadView T
    pub is : part'.head ≡ Some h'
    pub read : StepRead state p ends head h' b a
    pub goes : GoesByPlan meaning stands_after state p ends part'
    pub path : part'.path ≡ part.path

  pub reads-go : PartMoves state may_refuse part by.Read b true part' a → (steps_left head.input ≡ 0 → ends ≡ true) → PartRead
  reads-go m more =
      let now = m.reads.head head is-head in
      let gave = subst (λ (answer : _). HeadReads state head b answer now.0 a) (m.gave refl) now.2 in
      let r = step-read state p ends head now.0 b a gave (g.reads head is-head) more in
      record {
        h' = now.0;
        is = now.1;
        read = r;
        goes = goes-same meaning stands_after state p ends part part' same (path-means meaning p part part' m.reads.path g.meant)
            (λ x at. let own = same_Some now.0 x (sym now.1 ∙ at) in
            subst (λ (y : HeadView T). IsHeadFed meaning stands_after state p ends y) own (r.fed, ap (λ (t : T). (state t).window) r.transport ∙ g.window head is-head, λ none. r.closed ∙ g.unclosed head is-head (sym r.failure ∙ none))) g;
        path = m.reads.path;
      }

  -- after a write: what was accepted, and whether it has failed
  pub record PartWritten : Type 0 where
    pub h' : HeadView T
    pub is : part'.head ≡ Some h'
    pub answer : OutStep
    pub wrote : HeadWrites state may_refuse head b answer h' a
    pub made : answer ≢ step.Idle
    pub goes : GoesByPlan meaning stands_after state p ends part'
    pub path : part'.path ≡ part.path

  pub writes-go : PartMoves state may_refuse part by.Out b true part' a → PartWritten
  writes-go m =
      let now = m.writes.head head is-head in
      let w = now.2 in
      let input : now.0.input ≡ head.input = ap (λ (x : HeadView T). x.input) w.same in
      let r = g.reads head is-head in
      record {
        h' = now.0;
        is = now.1;
        answer = m.answer;
        wrote = w;
        made = m.wrote refl;
        goes = goes-same meaning stands_after state p ends part part' same (path-means meaning p part part' m.writes.path g.meant)
            (λ x at. let own = same_Some now.0 x (sym now.1 ∙ at) in
            subst (λ (y : HeadView T). IsHeadFed meaning stands_after state p ends y) own (
              record {
                reads = r.reads;
                failed = r.failed;
                stand = subst (InputStands (fed_plan p.bursts) r.reads r.failed) (sym input) r.stand;
                by_failure = λ f. ap (λ (c : Option Cause). is_some c) w.failure ∙ some-failed head.failure (cause_of_step m.answer) (r.by_failure f);
                not_ended = r.not_ended;
              },
              w.window ∙ g.window head is-head,
              λ none. ap (λ (x : HeadView T). x.is_closed) w.same ∙ g.unclosed head is-head (none-before head.failure (cause_of_step m.answer) (sym w.failure ∙ none)),
            )) g;
        path = m.writes.path;
      }
