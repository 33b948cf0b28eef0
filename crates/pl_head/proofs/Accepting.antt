-- A write that is idle, and one of which the transport accepts so many bytes.
use Rattle.std.proofs.Common.{◌≡◌, ◌≢◌, ◌↔◌, ℕ, ◌-◌, ◌<◌, ◌≤◌, min, List, [], ◌∷◌, ◌++◌, length, take, drop, Bool, true, false, nat_eq, nat_le, Option, Some, None, is_some, ◌||◌, append-nil, ap, sym, ◌∙◌, refl, arith, rules, append_assoc}
use Rattle.std.specs.Prelude.{IsSome}
use Rattle.std.proofs.lemmas.List.{take-append-drop}
use Rattle.std.proofs.lemmas.Bool.Decides.{nat_tests}
use Rattle.std.proofs.lemmas.Grind.{common_steps}
use Rattle.pl_context.specs.OutputsViews.{OutputsView}
use Rattle.pl_context.specs.Standings.{is_over}
use Rattle.pl_head.specs.declared.heads.OutStep.{OutStep}
use Rattle.pl_head.specs.declared.heads.OutStep.TheVariants.{Wrote, Idle}
use Rattle.pl_event.specs.declared.events.Event.{Event}
use Rattle.pl_head.specs.Marks.{Change, Removed}
use Rattle.pl_head.specs.MarksStand.{SendsFlags}
use Rattle.pl_head.specs.Writes.{out, bytes_offered, flushed_writes, waiting_bytes}
use Rattle.pl_head.specs.Buffers.{OutboundBufferView, BufferStands, SameMarks, SettlesMore}
use Rattle.pl_event.specs.declared.outcomes.Cause.{Cause}
use Rattle.pl_head.specs.HeadStand.{HeadView, HeadStandsAfter, is_idle, HasFewFlags, BufferAfter, step_sizes, first_cause}
use Rattle.pl_head.specs.HeadCalls.{HeadWrites}
use Rattle.pl_head.specs.Transports.{TransportState, one_call_more, FailsNext}
use Rattle.pl_head.proofs.Rising.{goes_on-same}
use Rattle.pl_head.proofs.HeadSteps.{none_waits, some_waits}
use Rattle.pl_head.proofs.HeadAfter.{unfailed, wrote_after, wrote_unfailed}
use Rattle.pl_head.proofs.BufferSteps.{same_flags}

pub wrote_sizes : (n before after : ℕ) → 0 < n → step_sizes (Wrote n) before after ≡ Removed (before - after) ∷ []
wrote_sizes n before after some =
    let test : nat_eq n 0 ≡ false = grind (arith, nat_tests) in
    rw test refl

pub accepted_some : (accepted bytes rest whole : List ℕ) (n : ℕ) → accepted ++ (bytes ++ rest) ≡ whole → accepted ++ (take n bytes ++ (drop n bytes ++ rest)) ≡ whole
accepted_some accepted bytes rest whole n e =
    ap (λ (t : List ℕ). accepted ++ t) (sym (append_assoc (take n bytes) (drop n bytes) rest) ∙ ap (λ (t : List ℕ). t ++ rest) (take-append-drop n bytes)) ∙ e

-- ---- whether a write is idle

pub all_left : (accepted whole : List ℕ) → accepted ≡ whole → nat_le (length whole) (length accepted) ≡ true
all_left accepted whole e = sym (none_waits accepted [] whole refl (append-nil accepted ∙ e)).1

pub idle_after : (failure : Option Cause) (accepted : List ℕ) (b : OutboundBufferView) (ys zs : List Event) (ended : Bool) (sizes : List Change) → BufferAfter failure accepted b ys zs ended sizes
    → (BufferStands accepted b ys ended sizes → nat_le (length (out ys)) (length accepted) ≡ true) → (is_some failure || nat_le (length (out ys)) (length accepted)) ≡ true
idle_after None accepted b ys zs ended sizes s written = written s.1
idle_after (Some cause) accepted b ys zs ended sizes s written = refl

first_stays : (failure : Option Cause) → failure ≡ first_cause failure None
first_stays None = refl
first_stays (Some cause) = refl

-- where no flushed byte waits, a write is idle, and leaves the head as it is
pub idles : {T : Type 0} (state : T → TransportState) (may_refuse : T → ℕ → Type 0) (h : HeadView T) (outputs : OutputsView) → HasFewFlags h
    → ((ys zs : List Event) (sizes : List Change) → HeadStandsAfter state h ys zs sizes → is_idle state h ys ≡ true)
    → HeadWrites state may_refuse h outputs Idle h outputs
idles state may_refuse h outputs few idle = search (rules, idle, first_stays, goes_on-same, few)

not_idle : (failure : Option Cause) {written : Bool} → is_some failure ≡ false → written ≡ false → (is_some failure || written) ≡ true → ⊥
not_idle None none waits e = cc (waits, e)
not_idle (Some cause) none waits e = cc none

-- where a byte is offered, a head that has not failed is not idle, and does not answer so
pub waits_for : (failure : Option Cause) (accepted : List ℕ) (b : OutboundBufferView) (ys zs : List Event) (ended : Bool) (sizes : List Change) (bytes : List ℕ) (size : ℕ) {answer : OutStep} → is_some failure ≡ false → answer ≢ Idle
    → (BufferStands accepted b ys ended sizes → (0 < length bytes) × (length bytes ≡ size) × ((rest : List ℕ) × (accepted ++ (bytes ++ rest) ≡ out ys))) → BufferAfter failure accepted b ys zs ended sizes
    → (answer ≡ Idle) ↔ ((is_some failure || nat_le (length (out ys)) (length accepted)) ≡ true)
waits_for failure accepted b ys zs ended sizes bytes size none called offers s =
    let left = offers (unfailed failure accepted b ys zs ended sizes none s) in
    (λ e. absurd (called e), λ e. absurd (not_idle failure none (sym (some_waits bytes left.2.0 (bytes ++ left.2.0) accepted (out ys) refl left.0 left.2.1).1) e))

-- an answer of the buffer, which has none flushed once the head has failed
pub idle_or_failed : (failure : Option Cause) (accepted : List ℕ) (b : OutboundBufferView) (ys zs : List Event) (ended : Bool) (sizes : List Change) {answer : Bool} → BufferAfter failure accepted b ys zs ended sizes
    → (IsSome failure → answer ≡ true) → (BufferStands accepted b ys ended sizes → answer ≡ nat_le (length (out ys)) (length accepted)) → answer ≡ (is_some failure || nat_le (length (out ys)) (length accepted))
idle_or_failed None accepted b ys zs ended sizes s failed stands = stands s.1
idle_or_failed (Some cause) accepted b ys zs ended sizes s failed stands = failed refl

-- ---- the transport accepts so many of the bytes that it is offered

pub accepts : {T : Type 0} (state : T → TransportState) (may_refuse : T → ℕ → Type 0) (h : HeadView T) (t : T) (b : OutboundBufferView) (before after : OutputsView) (bytes : List ℕ) (n : ℕ) → is_some h.failure ≡ false
    → ((ys : List Event) (sizes : List Change) → BufferStands (state h.transport).accepted h.buffer ys (is_over h.standing) sizes
    → (0 < length bytes) × (length bytes ≡ bytes_offered 0 (length (state h.transport).accepted) (flushed_writes ys)) × ((rest : List ℕ) × ((state h.transport).accepted ++ (bytes ++ rest) ≡ out ys)))
    → n ≤ length bytes → (state t).accepted ≡ (state h.transport).accepted ++ take n bytes → (state t).calls ≡ one_call_more (state h.transport).calls → (state t).failures ≡ (state h.transport).failures
    → (state t).window ≡ (state h.transport).window → ((w : ℕ) → (state h.transport).window ≡ Some w → n ≡ min (length bytes) w) → (FailsNext (state h.transport) → ⊥) → (state t).fail_at ≡ (state h.transport).fail_at
    → (n ≡ 0 → (b ≡ h.buffer) × (after ≡ before))
    → ((ys : List Event) (sizes : List Change) → BufferStands (state h.transport).accepted h.buffer ys (is_over h.standing) sizes
    → let removed = step_sizes (Wrote n) (waiting_bytes ys (length (state h.transport).accepted) (is_over h.standing)) (waiting_bytes ys (length (state t).accepted) (is_over h.standing)) in
    BufferStands (state t).accepted b ys (is_over h.standing) (sizes ++ removed) × SendsFlags h.buffer.low h.buffer.high sizes removed h.buffer.flags before b.flags after)
    → b.is_full ≡ h.buffer.is_full → SameMarks h.buffer b → SettlesMore h.buffer b → HasFewFlags (record h { transport = t; buffer = b })
    → HeadWrites state may_refuse h before (Wrote n) (record h { transport = t; buffer = b }) after
accepts state may_refuse h t b before after bytes n none offers within accepted calls sound window full told fail_at nothing removed numbering marks settles few =
    let stands = λ (ys zs : List Event) (sizes : List Change) (s : HeadStandsAfter state h ys zs sizes). unfailed h.failure (state h.transport).accepted h.buffer ys zs (is_over h.standing) sizes none s in
    record {
      called = λ e. calls;
      idle = search rules;
      wrote = λ k e. let same : n ≡ k = cc e in grind (arith, common_steps);
      sound = λ k e. sound;
      failed = search rules;
      kept = search rules;
      nothing = λ e. nothing (cc e);
      window = window;
      fail_at = fail_at;
      within = λ k ys zs sizes e s. let same : n ≡ k = cc e in omega (arith, same, (offers ys sizes (stands ys zs sizes s)).1, within);
      full = λ k w ys zs sizes e s is. let same : n ≡ k = cc e in sym same ∙ full w is ∙ ap (λ (k : ℕ). min k w) (offers ys sizes (stands ys zs sizes s)).1;
      fails_there = λ k e. told;
      fails_else = search rules;
      waits = λ ys zs sizes s. waits_for h.failure (state h.transport).accepted h.buffer ys zs (is_over h.standing) sizes bytes _ none (λ e. cc e) (offers ys sizes) s;
      rests = λ failed. cc (failed, none);
      stood = λ ys zs sizes s. wrote_after h.failure n (state h.transport).accepted (state t).accepted h.buffer b ys zs (is_over h.standing) sizes none s (removed ys sizes (stands ys zs sizes s)).0;
      flags = λ ys zs sizes s. same_flags sizes (wrote_unfailed h.failure n _ _ none) (removed ys sizes (stands ys zs sizes s)).1;
      failure = first_stays h.failure;
      same = refl;
      numbering = numbering;
      marks = marks;
      settles = settles;
      few = few;
    }
