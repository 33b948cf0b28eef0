-- The nodes of a channel go on as its plan has them.
use Rattle.std.proofs.Common.{◌≡◌, ℕ, suc, ◌+◌, ◌-◌, ◌<◌, ◌≤◌, ◌^◌, ◌≢◌, ◌==◌, ◌||◌, ◌&&◌, Bool, true, false, not, leb, ltb, List, length, Option, Some, None, refl, ap, sym, ◌∙◌, subst, inl, inr, ◌⊎◌, ⊎_elim, arith}
use Rattle.std.specs.Prelude.{is_some, min}
use Rattle.std.proofs.lemmas.List.{length-map}
use Rattle.std.proofs.lemmas.Bool.{and_parts, both_ways, cases_Bool, cases_eq, cond-true, leb-false, leb-true, lt-ltb, or_left, or_parts, or_right, false_from_ne_true, not-false}
use Rattle.std.proofs.lemmas.Option.{same_Some}
use Rattle.pl_event.specs.declared.events.Event.{Event}
use Rattle.pl_event.specs.declared.envelopes.Envelope.{Envelope}
use Rattle.pl_event.specs.declared.envelopes.Item.{Item}
use Rattle.pl_event.specs.declared.envelopes.Item.TheVariants as item
use Rattle.pl_event.specs.declared.outcomes.Cause.{Cause}
use Rattle.pl_event.specs.declared.outcomes.Cause.TheVariants.{Memory, Transport, Aborted, Refused}
use Rattle.pl_event.specs.Meaning.{Meaning}
use Rattle.pl_event.proofs.Lists.{some-of}
use Rattle.pl_context.specs.declared.standing.Standing.{Standing}
use Rattle.pl_context.specs.declared.standing.Standing.TheVariants as standings
use Rattle.pl_context.specs.ContextViews.{ContextView}
use Rattle.pl_context.specs.declared.standing.Took.{Took}
use Rattle.pl_context.specs.Standings.{is_over}
use Rattle.pl_context.specs.OutputsViews.{OutputsView}
use Rattle.pl_head.specs.declared.heads.OutStep.{OutStep}
use Rattle.pl_head.specs.declared.heads.OutStep.TheVariants as step
use Rattle.pl_head.specs.declared.heads.ReadStep.TheVariants as reading
use Rattle.pl_head.specs.ReadSteps.{brings_abort, brings_failure, has_step, is_abort, plan_steps, steps_after}
use Rattle.pl_head.specs.Transports.{TransportState, one_call_more}
use Rattle.pl_head.specs.Writes.{flushed_writes, bytes_offered, out}
use Rattle.pl_head.specs.InputStand.{InputStands, InputView}
use Rattle.pl_head.specs.HeadStand.{HeadView, ReadsStand, lane_over, Answers, first_cause, cause_of_item, cause_of_step}
use Rattle.pl_head.specs.HeadCalls.{HeadTakes, HeadReads, HeadWrites}
use Rattle.pl_part.specs.Parts.{ChannelPartView, PartTakes, PartReads, PartWrites, SamePart, head_hop}
use Rattle.pl_world.specs.Plans.{ChannelPlan, read_plan}
use Rattle.pl_world.specs.Reports.{CallsKeepToPlan, accepted_by, failed_calls, head_of, most_by}
use Rattle.pl_world.proofs.PlannedCalls.{offered-further, offered-whole}
use Rattle.pl_channel.specs.PlanStand.{HeadKeepsPlan, PartKeepsPlan}
use Rattle.pl_channel.proofs.HeadLanes.{HeadBegins}

-- ---- why a head has failed

-- A head goes on with its cause, or has failed for this one now.
abbrev pub FailsFor : Cause → Option Cause → Option Cause → Type 0
FailsFor c f f' = (f' ≡ f) ⊎ ((f ≡ None) × (f' ≡ Some c))

module _ (c : Cause) (f f' : Option Cause) (is : FailsFor c f f') where
  -- it has failed for another cause only where it had before
  failed-before : (d : Cause) → (Some c ≡ Some d → ⊥) → f' ≡ Some d → f ≡ Some d
  failed-before d other e = elim is [
    | inl same ↦ sym same ∙ e
    | inr new ↦ absurd (other (sym new.1 ∙ e))
  ]

  stays-failed : is_some f ≡ true → is_some f' ≡ true
  stays-failed some = elim is [
    | inl same ↦ ap is_some same ∙ some
    | inr new ↦ ap is_some new.1
  ]

  module _ (sound : failed_calls (Some c) ≡ 0) where
    -- a cause for which no call has failed
    same-calls : failed_calls f' ≡ failed_calls f
    same-calls = elim is [
      | inl same ↦ ap failed_calls same
      | inr new ↦ ap failed_calls new.1 ∙ sound ∙ sym (ap failed_calls new.0)
    ]

    no-transport : Some c ≡ Some Transport → ⊥
    no-transport e = let one = ap failed_calls e in absurd (omega (arith, one, sound))

    calls-stay : (p : ChannelPlan) (calls accepted : ℕ) → CallsKeepToPlan p f calls accepted → CallsKeepToPlan p f' calls accepted
    calls-stay p calls accepted k = record {
      failed = λ e. k.failed (failed-before Transport no-transport e);
      fails_there = λ at told some small. subst (λ (n : ℕ). calls - n < at) (sym same-calls) (k.fails_there at told some small);
      most = subst (λ (n : ℕ). accepted ≤ most_by (flushed_writes (head_of p)) (calls - n)) (sym same-calls) k.most;
      window = λ w is. subst (λ (n : ℕ). accepted ≡ accepted_by w (flushed_writes (head_of p)) (calls - n)) (sym same-calls) (k.window w is);
    }

and-with : (a b : Bool) → b ≡ true → (a && b) ≡ a
and-with true b e = e
and-with false b e = refl

-- ---- a head

module _ {T : Type 0} (state : T → TransportState) (p : ChannelPlan) where
  is-open : (s : Standing) (closed : Bool) → (is_over s || closed) ≡ false → s ≡ standings.Open
  is-open standings.Open closed o = refl
  is-open standings.Ended closed o = cc
  is-open (standings.Failed c) closed o = cc

  -- Its transport and its marks are those of another head, and it may have failed for this cause now.
  keeps : (c : Cause) (h h' : HeadView T) → h'.transport ≡ h.transport → h'.buffer.low ≡ h.buffer.low → h'.buffer.high ≡ h.buffer.high → FailsFor c h.failure h'.failure
      → failed_calls (Some c) ≡ 0 → (Some c ≡ Some Refused → ⊥) → HeadKeepsPlan state p h
      → ((reads : ℕ) × (failed : Bool) × ReadsStand (read_plan p) reads failed h')
      → (h'.failure ≡ Some Aborted → (is_some p.abort_after ≡ true) × (h'.input.steps + 1 ≡ plan_steps (read_plan p)))
      → (is_some p.abort_after ≡ true → h'.input.port.is_open ≡ false → is_some h'.failure ≡ true) → HeadKeepsPlan state p h'
  keeps c h h' transport low high fails sound unrefused k reads aborted closed = record {
    reads = reads;
    low = low ∙ k.low;
    high = high ∙ k.high;
    window = ap (λ (t : T). (state t).window) transport ∙ k.window;
    fail_at = ap (λ (t : T). (state t).fail_at) transport ∙ k.fail_at;
    calls = k.calls;
    counted = ap (λ (t : T). (state t).calls) transport ∙ k.counted;
    called = subst (λ (t : T). CallsKeepToPlan p h'.failure k.calls (length (state t).accepted)) (sym transport)
        (calls-stay c h.failure h'.failure fails sound p k.calls (length (state h.transport).accepted) k.called);
    failures = ap (λ (t : T). (state t).failures) transport ∙ k.failures ∙ sym (same-calls c h.failure h'.failure fails sound);
    aborted = aborted;
    closed = closed;
    unrefused = λ e. k.unrefused (failed-before c h.failure h'.failure fails Refused unrefused e);
  }

  -- so, where its input is the same too
  same-keeps : (c : Cause) (h h' : HeadView T) → h'.transport ≡ h.transport → h'.input ≡ h.input → h'.buffer.low ≡ h.buffer.low → h'.buffer.high ≡ h.buffer.high → FailsFor c h.failure h'.failure
      → failed_calls (Some c) ≡ 0 → (Some c ≡ Some Aborted → ⊥) → (Some c ≡ Some Refused → ⊥) → HeadKeepsPlan state p h → HeadKeepsPlan state p h'
  same-keeps c h h' transport input low high fails sound unaborted unrefused k =
      keeps c h h' transport low high fails sound unrefused k (k.reads.0, k.reads.1, subst (InputStands (read_plan p) k.reads.0 k.reads.1) (sym input) k.reads.2)
      (λ e. let was = k.aborted (failed-before c h.failure h'.failure fails Aborted unaborted e) in (was.0, ap (λ (x : InputView). x.steps + 1) input ∙ was.1))
      (λ aborts over. stays-failed c h.failure h'.failure fails (k.closed aborts (sym (ap (λ (x : InputView). x.port.is_open) input) ∙ over)))

  -- an item fails it for want of memory alone
  by-item : (i : Item) (answer : Took) → Answers false i answer → (cause_of_item i answer ≡ None) ⊎ (cause_of_item i answer ≡ Some Memory)
  by-item (item.Event e) answer a = elim a [
    | inl ran ↦ inl (ap (cause_of_item (item.Event e)) ran)
    | inr failed ↦ inr (ap (cause_of_item (item.Event e)) failed.0)
  ]
  by-item item.End answer a = inl refl
  by-item (item.Fail c) answer a = inl refl
  by-item (item.Flag v) answer a = inl refl

  memory-aborted : Some Memory ≡ Some Aborted → ⊥
  memory-aborted e = cc

  memory-refused : Some Memory ≡ Some Refused → ⊥
  memory-refused e = cc

  -- an item that it takes
  pub takes-keeps : (h h' : HeadView T) (e : Envelope) (before after : OutputsView) (answer : Took)
      → HeadTakes state h e before answer h' after → HeadKeepsPlan state p h → HeadKeepsPlan state p h'
  takes-keeps h h' e before after answer t k =
      same-keeps Memory h h' (ap (λ (x : HeadView T). x.transport) t.same) (ap (λ (x : HeadView T). x.input) t.same) t.marks.low t.marks.high fails refl memory-aborted memory-refused k
    where
      live-fails : (f : Option Cause) → h.failure ≡ f → lane_over h ≡ false → FailsFor Memory h.failure h'.failure
      live-fails (Some c) f live = inl (t.failure (is-open h.standing h.is_closed live) ∙ ap (λ (x : Option Cause). first_cause x (cause_of_item e.item answer)) f ∙ sym f)
      live-fails None f live =
          let cause : h'.failure ≡ cause_of_item e.item answer = t.failure (is-open h.standing h.is_closed live) ∙ ap (λ (x : Option Cause). first_cause x (cause_of_item e.item answer)) f in
          elim (by-item e.item answer (subst (λ (q : Bool). Answers q e.item answer) (ap is_some f) (t.answers live))) [
            | inl none ↦ inl (cause ∙ none ∙ sym f)
            | inr memory ↦ inr (f, cause ∙ memory)
          ]

      fails : FailsFor Memory h.failure h'.failure
      fails = elim (cases_Bool (lane_over h)) [
        | inl over ↦ inl (ap (λ (x : HeadView T). x.failure) (t.over over).1)
        | inr live ↦ live-fails h.failure refl live
      ]

  failed-or : (some aborts : Bool) → (some || aborts) ≡ true → (not some && aborts) ≡ false → some ≡ true
  failed-or true aborts any none = refl
  failed-or false aborts any none = absurd (both_ways aborts none any)

  aborted-refused : Some Aborted ≡ Some Refused → ⊥
  aborted-refused e = cc

  none-of : (f : Option Cause) → not (is_some f) ≡ true → f ≡ None
  none-of None e = refl
  none-of (Some c) e = cc

  -- a read step: only that of an abort aborts it
  pub reads-keeps : (h h' : HeadView T) (before after : OutputsView)
      → HeadReads state h before reading.Gave h' after → HeadKeepsPlan state p h → HeadKeepsPlan state p h'
  reads-keeps h h' before after r k =
      keeps Aborted h h' transport r.marks.low r.marks.high fails refl aborted-refused k (steps_after (read_plan p) k.reads.0 h.failure, brings_failure (read_plan p) k.reads.0 h.failure, now)
      (aborted (cases_Bool abort)) closed
    where
      was : InputStands (read_plan p) k.reads.0 k.reads.1 h.input
      was = k.reads.2

      now : InputStands (read_plan p) (steps_after (read_plan p) k.reads.0 h.failure) (brings_failure (read_plan p) k.reads.0 h.failure) h'.input
      now = r.reads refl (read_plan p) k.reads.0 k.reads.1 k.reads.2

      abort : Bool
      abort = brings_abort (read_plan p) k.reads.0 h.failure

      aborts-now : abort ≡ true → (h.failure ≡ None) × (is_abort (read_plan p) k.reads.0 ≡ true)
      aborts-now e = let both = and_parts (not (is_some h.failure)) (is_abort (read_plan p) k.reads.0) e in (none-of h.failure both.0, both.1)

      step : (abort ≡ true) ⊎ (abort ≡ false) → (h'.transport ≡ h.transport) × FailsFor Aborted h.failure h'.failure
      step (inl e) =
          let a = r.aborts refl (read_plan p) k.reads.0 k.reads.1 k.reads.2 e in
          (ap (λ (x : HeadView T). x.transport) a.same, inr ((aborts-now e).0, ap (λ (x : HeadView T). x.failure) a.same))
      step (inr goes_on) =
          let same = r.same refl (read_plan p) k.reads.0 k.reads.1 k.reads.2 goes_on in
          (ap (λ (x : HeadView T). x.transport) same, inl (ap (λ (x : HeadView T). x.failure) same))

      transport : h'.transport ≡ h.transport
      transport = (step (cases_Bool abort)).0

      fails : FailsFor Aborted h.failure h'.failure
      fails = (step (cases_Bool abort)).1

      stays : brings_failure (read_plan p) k.reads.0 h.failure ≡ true → h'.input.steps ≡ k.reads.0
      stays e = now.steps ∙ cond-true (brings_failure (read_plan p) k.reads.0 h.failure) k.reads.0 (k.reads.0 + 1) e

      aborted : (abort ≡ true) ⊎ (abort ≡ false) → h'.failure ≡ Some Aborted → (is_some p.abort_after ≡ true) × (h'.input.steps + 1 ≡ plan_steps (read_plan p))
      aborted (inl e) _ =
          let is = (aborts-now e).1 in
          let last = and_parts (is_some p.abort_after) (leb (plan_steps (read_plan p)) (k.reads.0 + 1)) is in
          let most = leb-true (plan_steps (read_plan p)) (k.reads.0 + 1) last.1 in
          let left = was.before_abort last.0 in
          let made = stays (or_right (is_some h.failure) (is_abort (read_plan p) k.reads.0) is) in
          (last.0, omega (arith, most, left, made))
      aborted (inr goes_on) f =
          let before : h.failure ≡ Some Aborted = sym (ap (λ (x : HeadView T). x.failure) (r.same refl (read_plan p) k.reads.0 k.reads.1 k.reads.2 goes_on)) ∙ f in
          let kept = k.aborted before in
          let made = stays (or_left (is_some h.failure) (is_abort (read_plan p) k.reads.0) (ap is_some before)) in
          let steps = was.steps in
          (kept.0, omega (arith, kept.1, made, steps))

      closed : is_some p.abort_after ≡ true → h'.input.port.is_open ≡ false → is_some h'.failure ≡ true
      closed aborts over =
          let more = now.before_abort aborts in
          let left : has_step (read_plan p) (steps_after (read_plan p) k.reads.0 h.failure) (brings_failure (read_plan p) k.reads.0 h.failure) ≡ not (brings_failure (read_plan p) k.reads.0 h.failure) =
          and-with (not (brings_failure (read_plan p) k.reads.0 h.failure)) (ltb (steps_after (read_plan p) k.reads.0 h.failure) (plan_steps (read_plan p))) (lt-ltb (steps_after (read_plan p) k.reads.0 h.failure) (plan_steps (read_plan p)) more) in
          let any = not-false (brings_failure (read_plan p) k.reads.0 h.failure) (sym left ∙ sym now.is_open ∙ over) in
          ⊎_elim
          (λ (e : abort ≡ true). ap (λ (x : HeadView T). is_some x.failure) (r.aborts refl (read_plan p) k.reads.0 k.reads.1 k.reads.2 e).same)
          (λ (n : abort ≡ false). stays-failed Aborted h.failure h'.failure fails (failed-or (is_some h.failure) (is_abort (read_plan p) k.reads.0) any n))
          (cases_Bool abort)

  -- ---- a write

  counted-more : (calls count : ℕ) → count ≡ min calls (2 ^ 64 - 1) → one_call_more count ≡ min (suc calls) (2 ^ 64 - 1)
  counted-more calls count is = omega (arith, is)

  -- a head that makes a write has not failed
  sound-write : (f : Option Cause) (answer : OutStep) → (is_some f ≡ true → answer ≡ step.Idle) → answer ≢ step.Idle → f ≡ None
  sound-write None answer rests writes = refl
  sound-write (Some c) answer rests writes = absurd (writes (rests refl))

  pub writes-keeps : (may_refuse : T → ℕ → Type 0) (h h' : HeadView T) (before after : OutputsView) (answer : OutStep)
      → HeadWrites state may_refuse h before answer h' after → HeadBegins state p h → HeadKeepsPlan state p h → HeadKeepsPlan state p h'
  writes-keeps may_refuse h h' before after answer w begins k = by answer refl
    where
      -- it has made one call more, and has failed by it or not
      one-more : answer ≢ step.Idle → CallsKeepToPlan p h'.failure (suc k.calls) (length (state h'.transport).accepted) → (state h'.transport).failures ≡ failed_calls h'.failure
          → (h'.failure ≡ Some Aborted → ⊥) → (h'.failure ≡ Some Refused → ⊥) → HeadKeepsPlan state p h'
      one-more writes called failures unaborted unrefused = record {
        reads = (k.reads.0, k.reads.1, subst (InputStands (read_plan p) k.reads.0 k.reads.1) (sym (ap (λ (x : HeadView T). x.input) w.same)) k.reads.2);
        low = w.marks.low ∙ k.low;
        high = w.marks.high ∙ k.high;
        window = w.window ∙ k.window;
        fail_at = w.fail_at ∙ k.fail_at;
        calls = suc k.calls;
        counted = w.called writes ∙ counted-more k.calls (state h.transport).calls k.counted;
        called = called;
        failures = failures;
        aborted = λ e. absurd (unaborted e);
        closed = λ aborts over.
            let failed = k.closed aborts (sym (ap (λ (x : HeadView T). x.input.port.is_open) w.same) ∙ over) in
            absurd (both_ways (is_some h.failure) (ap is_some (sound-write h.failure answer w.rests writes)) failed);
        unrefused = unrefused;
      }

      none-fails : h.failure ≡ None → failed_calls h.failure ≡ 0
      none-fails none = ap failed_calls none

      by : (s : OutStep) → answer ≡ s → HeadKeepsPlan state p h'
      by step.Idle is = subst (HeadKeepsPlan state p) (sym (w.idle is).0) k
      by (step.Wrote n) is =
          let writes = λ (e : answer ≡ step.Idle). wrote-idle n (sym is ∙ e) in
          let none = sound-write h.failure answer w.rests writes in
          let now : h'.failure ≡ None = w.failure ∙ ap cause_after is ∙ ap (λ (f : Option Cause). first_cause f None) none in
          let before = none-fails none in
          let after = ap failed_calls now in
          one-more writes
          (record {
            failed = λ e. absurd (no-some Transport (sym now ∙ e));
            fails_there = λ at told some small.
                let fewer = k.called.fails_there at told some small in
                ⊎_elim
                (λ (e : suc k.calls ≡ at).
                let same : at ≡ one_call_more (state h.transport).calls = let count = k.counted in omega (arith, e, small, count) in
                absurd (w.fails_there n is (k.fail_at ∙ told ∙ ap (λ (m : ℕ). Some m) same)))
                (λ (other : suc k.calls ≢ at). omega (arith, fewer, before, after, other))
                (cases_eq (suc k.calls) at);
            most = accepts-most n is none now;
            window = λ size at. accepts n is none now size at;
          })
          (w.sound n is ∙ k.failures ∙ ap failed_calls (none ∙ sym now))
          (λ e. no-some Aborted (sym now ∙ e)) (λ e. no-some Refused (sym now ∙ e))
        where
          cause_after : OutStep → Option Cause
          cause_after s = first_cause h.failure (cause_of_step s)

          wrote-idle : (n : ℕ) → step.Wrote n ≡ step.Idle → ⊥
          wrote-idle n e = cc

          no-some : (c : Cause) → None ≡ Some c → ⊥
          no-some c e = cc

          all : List (Option (List ℕ))
          all = flushed_writes (head_of p)

          -- what it is offered is the same of the whole lane
          offers : (n : ℕ) → answer ≡ step.Wrote n → bytes_offered 0 (length (state h.transport).accepted) all ≡ bytes_offered 0 (length (state h.transport).accepted) (flushed_writes begins.ys)
          offers n is =
              let accepted = length (state h.transport).accepted in
              offered-whole accepted begins.ys (head_of p) begins.first
              (leb-false (length (out begins.ys)) accepted
              (or_parts (is_some h.failure) (leb (length (out begins.ys)) accepted)
              (false_from_ne_true (is_some h.failure || leb (length (out begins.ys)) accepted) (λ (i : (is_some h.failure || leb (length (out begins.ys)) accepted) ≡ true). wrote-idle n (sym is ∙ (w.waits begins.ys begins.zs begins.sizes begins.after).1 i)))).1)

          sound-before : h.failure ≡ None → k.calls - failed_calls h.failure ≡ k.calls
          sound-before none = let b = none-fails none in omega (arith, b)

          sound-after : h'.failure ≡ None → suc k.calls ≡ suc k.calls - failed_calls h'.failure
          sound-after now = let b = ap failed_calls now in omega (arith, b)

          accepts-most : (n : ℕ) → answer ≡ step.Wrote n → h.failure ≡ None → h'.failure ≡ None
              → length (state h'.transport).accepted ≤ most_by all (suc k.calls - failed_calls h'.failure)
          accepts-most n is none now =
              let accepted = length (state h.transport).accepted in
              let so_far : accepted ≤ most_by all k.calls = subst (λ (m : ℕ). accepted ≤ most_by all m) (sound-before none) k.called.most in
              let further = offered-further 0 accepted (most_by all k.calls) all so_far in
              let within = w.within n begins.ys begins.zs begins.sizes is begins.after in
              let wrote = w.wrote n is in
              let same = offers n is in
              let one_more : length (state h'.transport).accepted ≤ most_by all (suc k.calls) = omega (arith, further, within, wrote, same) in
              subst (λ (m : ℕ). length (state h'.transport).accepted ≤ most_by all m) (sound-after now) one_more

          accepts : (n : ℕ) → answer ≡ step.Wrote n → h.failure ≡ None → h'.failure ≡ None → (size : ℕ) → p.window ≡ Some size
              → length (state h'.transport).accepted ≡ accepted_by size all (suc k.calls - failed_calls h'.failure)
          accepts n is none now size at =
              let accepted = length (state h.transport).accepted in
              let so_far : accepted ≡ accepted_by size all k.calls = k.called.window size at ∙ ap (λ (m : ℕ). accepted_by size all m) (sound-before none) in
              w.wrote n is
              ∙ ap (λ (m : ℕ). accepted + m) (w.full n size begins.ys begins.zs begins.sizes is begins.after (k.window ∙ at) ∙ ap (λ (m : ℕ). min m size) (sym (offers n is)))
              ∙ ap (λ (a : ℕ). a + min (bytes_offered 0 a all) size) so_far
              ∙ ap (λ (m : ℕ). accepted_by size all m) (sound-after now)
      by step.Failed is =
          let writes = λ (e : answer ≡ step.Idle). failed-idle (sym is ∙ e) in
          let none = sound-write h.failure answer w.rests writes in
          let now : h'.failure ≡ Some Transport = w.failure ∙ ap cause_after is ∙ ap (λ (f : Option Cause). first_cause f (Some Transport)) none in
          let before = none-fails none in
          let after = ap failed_calls now in
          let same : k.calls - failed_calls h.failure ≡ suc k.calls - failed_calls h'.failure = omega (arith, before, after) in
          one-more writes
          (record {
            failed = λ e. omega arith;
            fails_there = λ at told some small. subst (λ (m : ℕ). m < at) same (k.called.fails_there at told some small);
            most =
                let most = k.called.most in
                let kept : length (state h'.transport).accepted ≡ length (state h.transport).accepted = ap (λ (l : List ℕ). length l) (w.kept is) in
                let stays = ap (λ (m : ℕ). most_by (flushed_writes (head_of p)) m) same in
                omega (arith, most, kept, stays);
            window = λ size at. ap (λ (l : List ℕ). length l) (w.kept is) ∙ k.called.window size at ∙ ap (λ (m : ℕ). accepted_by size (flushed_writes (head_of p)) m) same;
          })
          (w.failed is ∙ (let failures = k.failures in let e : one_call_more (state h.transport).failures ≡ failed_calls h'.failure = omega (arith, failures, before, after) in e))
          (λ e. transport-aborted (sym now ∙ e)) (λ e. transport-refused (sym now ∙ e))
        where
          cause_after : OutStep → Option Cause
          cause_after s = first_cause h.failure (cause_of_step s)

          failed-idle : step.Failed ≡ step.Idle → ⊥
          failed-idle e = cc

          transport-aborted : Some Transport ≡ Some Aborted → ⊥
          transport-aborted e = cc

          transport-refused : Some Transport ≡ Some Refused → ⊥
          transport-refused e = cc

-- ---- a part

module _ {S T : Type 0} (meaning : S → Meaning) (stands_after : S → List Event → Type 0) (is_spent : S → Bool) (state : T → TransportState) (p : ChannelPlan) where
  -- The nodes stay where they are, and so does the plan, where the head goes on as it has it.
  keeps-same : (part part' : ChannelPartView S T) → SamePart part part' → PartKeepsPlan state p part
      → ((h' : HeadView T) → part'.head ≡ Some h' → HeadKeepsPlan state p h') → PartKeepsPlan state p part'
  keeps-same part part' same k head = record {
    executors = same.path.executors ∙ k.executors;
    tail_at = same.path.tail_hop ∙ k.tail_at;
    head_at = sym (length-map part'.path.contexts (λ (slot : Option (ContextView S)). is_some slot)) ∙ ap length same.path.contexts ∙ length-map part.path.contexts (λ (slot : Option (ContextView S)). is_some slot) ∙ k.head_at;
    head = head;
    handed = same.path.handed ∙ k.handed;
    gone = same.gone ∙ k.gone;
  }

  -- the head of the part before, where there is one after
  head-was : (part part' : ChannelPartView S T) (h' : HeadView T) → SamePart part part' → part'.head ≡ Some h' → (h : HeadView T) × (part.head ≡ Some h)
  head-was part part' h' same is = some-of part.head (sym same.head ∙ ap (λ (o : Option (HeadView T)). is_some o) is)

  -- one head, however it is found
  same-head : (o : Option (HeadView T)) (h h' : HeadView T) → o ≡ Some h → o ≡ Some h' → HeadKeepsPlan state p h → HeadKeepsPlan state p h'
  same-head o h h' a b k = subst (HeadKeepsPlan state p) (same_Some h h' (sym a ∙ b)) k

  pub part-takes-keeps : (part part' : ChannelPartView S T) (e : Envelope) (before after : OutputsView) (answer : Took) → SamePart part part'
      → PartTakes meaning stands_after is_spent state part e before answer part' after → PartKeepsPlan state p part → PartKeepsPlan state p part'
  part-takes-keeps part part' e before after answer same t k = keeps-same part part' same k head
    where
      head : (h' : HeadView T) → part'.head ≡ Some h' → HeadKeepsPlan state p h'
      head h' is =
          let was = head-was part part' h' same is in
          elim (cases_Bool (e.lane.hop == head_hop part)) [
            | inl here ↦
                let taken = t.head was.0 here was.1 in
                same-head part'.head taken.0 h' taken.1 is (takes-keeps state p was.0 taken.0 e before after answer taken.2 (k.head was.0 was.1))
            | inr away ↦ k.head h' (sym (t.path away).1 ∙ is)
          ]

  pub part-reads-keeps : (part part' : ChannelPartView S T) (before after : OutputsView) → SamePart part part'
      → PartReads state part before reading.Gave part' after → PartKeepsPlan state p part → PartKeepsPlan state p part'
  part-reads-keeps part part' before after same r k = keeps-same part part' same k head
    where
      head : (h' : HeadView T) → part'.head ≡ Some h' → HeadKeepsPlan state p h'
      head h' is =
          let was = head-was part part' h' same is in
          let read = r.head was.0 was.1 in
          same-head part'.head read.0 h' read.1 is (reads-keeps state p was.0 read.0 before after read.2 (k.head was.0 was.1))

  pub part-writes-keeps : (may_refuse : T → ℕ → Type 0) (part part' : ChannelPartView S T) (before after : OutputsView) (answer : OutStep) → SamePart part part'
      → PartWrites state may_refuse part before answer part' after → ((h : HeadView T) → part.head ≡ Some h → HeadBegins state p h) → PartKeepsPlan state p part → PartKeepsPlan state p part'
  part-writes-keeps may_refuse part part' before after answer same w begins k = keeps-same part part' same k head
    where
      head : (h' : HeadView T) → part'.head ≡ Some h' → HeadKeepsPlan state p h'
      head h' is =
          let was = head-was part part' h' same is in
          let wrote = w.head was.0 was.1 in
          same-head part'.head wrote.0 h' wrote.1 is (writes-keeps state p may_refuse was.0 wrote.0 before after answer wrote.2 (begins was.0 was.1) (k.head was.0 was.1))
